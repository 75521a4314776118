-- A new plan holds nothing.
use Rattle.std.proofs.Common.{Option, ◌≡◌, ℕ, zero, suc, List, [], length, take, replicate, None, sym, refl, subst}
use Rattle.model.specs.declared.Branch.{Branch}
use Rattle.model.specs.declared.Node.{Node}
use Rattle.model.specs.Lists.{held, LineForLine}
use Rattle.model.specs.Diagrams.{Table, Means, Reaches, listed}
use Rattle.plans.specs.declared.header.Header.{Header}
use Rattle.plans.specs.Plain.{empty_plan}
use Rattle.plans.specs.Holding.{Holds}

nothing_held : (k : ℕ) → held (replicate {A = Option Branch} k None) ≡ []
nothing_held zero = refl
nothing_held (suc k) = nothing_held k

nothing_meant : (n : ℕ) (T : Table) (order : List ℕ) (k : ℕ) → LineForLine (Means n T order) (replicate k None) (replicate k None)
nothing_meant n T order zero = tt
nothing_meant n T order (suc k) = (tt, nothing_meant n T order k)

nothing_reached : (T : Table) → Reaches T [] []
nothing_reached T = record { apart = tt; reached = λ i m. absurd m; all = λ i r. absurd r.1 }

pub new_holds : (order : List ℕ) (nodes : List Node) (h : Header) → order ≡ take h.pins h.order → length nodes ≡ h.size → h.lines ≡ replicate 32 None → h.usage.used ≡ 0
    → Holds h nodes (empty_plan order (length nodes))
new_holds order nodes h o s l u = record {
  heads = record { order = o; size = s };
  whole = refl;
  reachable = [];
  reached = subst (λ (ls : List (Option Branch)). Reaches (listed nodes) (held ls) []) (sym l) (nothing_reached (listed nodes));
  ordered = record { within = λ i m. absurd m; rising = λ i m. absurd m };
  reduced = record { tested = λ i m. absurd m; shared = λ i k m. absurd m };
  lines = subst (λ (ls : List (Option Branch)). LineForLine (Means (length order) (listed nodes) order) ls (replicate 32 None)) (sym l) (nothing_meant (length order) (listed nodes) order 32);
  used = u;
}
