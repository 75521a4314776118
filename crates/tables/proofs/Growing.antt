-- Tables that stay or grow.
use Rattle.std.proofs.Common.{ℕ, suc, ◌≤◌, List, sym, refl, ◌∙◌, arith}
use Rattle.model.specs.declared.Branch.{Branch}
use Rattle.model.specs.declared.Branch.TheVariants.{End as end, Node as node}
use Rattle.model.specs.declared.Node.{Node}
use Rattle.model.specs.Diagrams.{Table, listed, side, From, Ordered, Reduced}
use Rattle.model.proofs.Grow.{from_wider}
use Rattle.tables.specs.States.{Live, Grown}

pub grown_same : (nodes : List Node) (marks : List ℕ) → Grown nodes marks nodes marks
grown_same nodes marks = record { size = refl; kept = λ i l. refl; live = λ i l. l }

pub grown_twice : {nodes₀ nodes₁ nodes₂ : List Node} {marks₀ marks₁ marks₂ : List ℕ} → Grown nodes₀ marks₀ nodes₁ marks₁ → Grown nodes₁ marks₁ nodes₂ marks₂ → Grown nodes₀ marks₀ nodes₂ marks₂
grown_twice g h = record { size = h.size ∙ g.size; kept = λ i l. h.kept i (g.live i l) ∙ g.kept i l; live = λ i l. h.live i (g.live i l) }

-- a branch of a later place is one of an earlier place too
pub from_later : (U : ℕ → Type 0) (T : Table) (d e : ℕ) (b : Branch) → d ≤ e → From U T e b → From U T d b
from_later U T d e (end c) l f = tt
from_later U T d e (node i) l f = (f.0, let m = f.1 in omega arith)

pub from_weaker : (U : ℕ → Type 0) (T : Table) (d : ℕ) (b : Branch) → From U T (suc d) b → From U T d b
from_weaker U T d b f = from_later U T d (suc d) b (omega arith) f

-- a branch stays where it was in a table that grows
pub from_grown : (nodes : List Node) (marks : List ℕ) (nodes' : List Node) (marks' : List ℕ) → Grown nodes marks nodes' marks' → (d : ℕ) (b : Branch) → From (Live marks) (listed nodes) d b → From (Live marks') (listed nodes') d b
from_grown nodes marks nodes' marks' g d b f = from_wider (listed nodes) (listed nodes') (Live marks) (Live marks') (λ i l. sym (g.kept i l)) g.live d b f

pub ordered_iff : (n : ℕ) (T : Table) (U V : ℕ → Type 0) → ((i : ℕ) → V i → U i) → ((i : ℕ) → U i → V i) → Ordered n T U → Ordered n T V
ordered_iff n T U V b f o =
    record { within = λ i v. o.within i (b i v); rising = λ i v s. from_wider T T U V (λ j u. refl) f (suc (T i).place) (side s (T i)) (o.rising i (b i v) s) }

pub reduced_iff : (T : Table) (U V : ℕ → Type 0) → ((i : ℕ) → V i → U i) → Reduced T U → Reduced T V
reduced_iff T U V b r = record { tested = λ i v. r.tested i (b i v); shared = λ i k v w. r.shared i k (b i v) (b k w) }
