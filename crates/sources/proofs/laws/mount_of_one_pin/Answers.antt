use Rattle.std.proofs.Common.{Ok, ap, ◌∙◌}
use Rattle.sources.proofs.Settled.{never_refused, settled}
use Rattle.sources.proofs.laws.mount_of_one_pin.Goals as goal

pub returns : goal.returns
returns g c =
    λ width low high. let s = c.in_ok-two.two in let made = c.in_ok-two.ensures in let below = made.1 in ap Ok (settled s.pins (g.S.Source.width s.below) s.base s.fill (g.S.Source.selection s.below) made.2 (ap g.S.Source.width below ∙ width) made.3 made.4 (ap (λ x. g.S.Source.selection x 0) below ∙ low) (ap (λ x. g.S.Source.selection x 1) below ∙ high) c.ask.result c.ask-2.result c.ask-3.result c.ask-4.result c.ask.ensures c.ask-2.ensures c.ask-3.ensures c.ask-4.ensures)

pub returns-in_err-two : goal.returns-in_err-two
returns-in_err-two g c =
    λ width low high. absurd (never_refused (g.S.Source.width c.args.one) c.in_err-two.field-0.0 width c.in_err-two.ensures)
