-- Rows of calls: the plain plan fed a row, and the tables that a row is lent.
use Rattle.std.specs.Prelude.{◌≡◌, ℕ, min, List, [], ◌∷◌, length}
use Rattle.model.specs.declared.Node.{Node}
use Rattle.plans.specs.declared.header.Header.{Header}
use Rattle.plans.specs.Plain.{Plain, Call, after}
use Rattle.plans.specs.Holding.{Holds}
use Rattle.rows.specs.declared.hand.Hand.{Hand}
use Rattle.rows.specs.declared.lent.Tables.{Tables}

-- the lengths of the tables that a row is lent
pub record Lent : Type 0 where
  pub nodes : ℕ
  pub records : ℕ
  pub work : ℕ

abbrev pub lent : (nodes records work : ℕ) → Lent
lent k m w = record { nodes = k; records = m; work = w }

-- whole tables
abbrev pub whole : Tables → Lent
whole t = lent (length t.nodes.now) (length t.records.now) (length t.work.now)

-- the tables stay in the same memory, as long as they were
pub record KeepsLoans (t t' : Tables) : Type 0 where
  pub nodes : t'.nodes.ghost_name ≡ t.nodes.ghost_name
  pub records : t'.records.ghost_name ≡ t.records.ghost_name
  pub work : t'.work.ghost_name ≡ t.work.ghost_name
  pub lengths : whole t' ≡ whole t

-- what a hand gives of them: of each table at most so many from the front
abbrev pub handed : Hand → Lent → Lent
handed h l = lent (min h.nodes l.nodes) (min h.records l.records) (min h.work l.work)

-- the plain plan fed a row of calls, one after the other
abbrev pub runs : Plain → List Call → Plain
runs p [] = p
runs p (c ∷ cs) = runs (after p c) cs

-- What a row does: whatever plain plan is held at its entry, that plan fed its calls is held at its exit.
abbrev pub Ran : Header → List Node → List Call → Header → List Node → Type 0
Ran h nodes cs h' nodes' = (p : Plain) → Holds h nodes p → Holds h' nodes' (runs p cs)
