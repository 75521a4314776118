-- Ends of an accepted file differ where its codes do.
use Rattle.std.proofs.Common.{◌≡◌, ℕ, ◌<◌, Bool, true, false, cond, List, Some, Option, refl, sym, ap, subst, ◌∙◌, arith}
use Rattle.sources.specs.declared.source.Answer.{Answer}
use Rattle.sources.specs.declared.source.Answer.TheVariants.{All, Mixed, Outside}
use Rattle.sources.specs.Blocks.{at, Differing, Says}
use Rattle.sources.specs.Mapping.{Mapped}
use Rattle.files.specs.declared.format.Format.{Format}
use Rattle.files.specs.declared.format.Format.TheVariants.{Bits, Settings, Ranges}
use Rattle.files.specs.Formats.{pins_of, count_of, first_of, code_limit}
use Rattle.files.specs.Rules.{Obeys}
use Rattle.files.specs.Meaning.{last_at, covered, meaning}
use Rattle.files.proofs.Lasts.{last_told}

code_below : (k : Format) (bs : List ℕ) → Obeys k bs → (a : ℕ) → meaning k bs a < code_limit k
code_below Bits bs o a = omega arith
code_below Settings bs o a = o.entries.coded (last_at (first_of Settings bs) a (count_of Settings bs)) (last_told (first_of Settings bs) refl a (count_of Settings bs)).there
code_below Ranges bs o a = below (covered bs a (count_of Ranges bs))
  where
    below : (b : Bool) → cond b 1 0 < 2
    below true = omega arith
    below false = omega arith

-- the code of an end is the one that stands for it in the file
pub own_code : {E : Type 0} (code : E → ℕ) (decoded : ℕ → Option E) → ((n : ℕ) (e : E) → decoded n ≡ Some e → code e ≡ n) → (k : Format) (bs : List ℕ) → Obeys k bs → (end : ℕ → E) (selection : ℕ → E)
    → ((a : ℕ) → selection a ≡ end (meaning k bs a)) → ((c : ℕ) → c < code_limit k → decoded c ≡ Some (end c)) → (a : ℕ) → code (selection a) ≡ meaning k bs a
own_code code decoded only k bs o end selection means coded a = only (meaning k bs a) (selection a) (coded (meaning k bs a) (code_below k bs o a) ∙ ap Some (sym (means a)))

module _ {E : Type 0} (k : Format) (bs : List ℕ) (o : Obeys k bs) (end : ℕ → E) (selection : ℕ → E)
    (means : (a : ℕ) → selection a ≡ end (meaning k bs a)) (apart : (c d : ℕ) → c < code_limit k → d < code_limit k → end c ≡ end d → c ≡ d) where
  one_code : (a b : ℕ) → selection a ≡ selection b → meaning k bs a ≡ meaning k bs b
  one_code a b e = apart (meaning k bs a) (meaning k bs b) (code_below k bs o a) (code_below k bs o b) (sym (means a) ∙ e ∙ means b)

  ends_differ : (j p : ℕ) → Differing (pins_of k bs) (meaning k bs) j p → Differing (pins_of k bs) selection j p
  ends_differ j p d = record {
    inside = d.inside;
    left = d.left;
    right = d.right;
    left_in = d.left_in;
    right_in = d.right_in;
    differ = λ e. d.differ (one_code (at (pins_of k bs) j p d.left) (at (pins_of k bs) j p d.right) e);
  }

  pub ends_say : (R : ℕ → E → Type 0) (j p : ℕ) (a : Answer ℕ) (b : Answer E) → Mapped R a b → ((c : ℕ) (e : E) → R c e → e ≡ end c) → Says (pins_of k bs) (meaning k bs) j p a → Says (pins_of k bs) selection j p b
  ends_say R j p (All c) b m is u =
      subst (Says (pins_of k bs) selection j p) (sym m.1)
      (record { inside = u.inside; same = λ i l. means (at (pins_of k bs) j p i) ∙ ap end (u.same i l) ∙ sym (is c m.0 m.2) })
  ends_say R j p Mixed b m is d = subst (Says (pins_of k bs) selection j p) (sym m) (ends_differ j p d)
  ends_say R j p Outside b m is o = subst (Says (pins_of k bs) selection j p) (sym m) o
