-- How far edges are counted.
use Rattle.std.specs.Prelude.{◌≡◌, ℕ, suc, ◌<◌, Some, List, length, slice_get}
use Rattle.fused_parts.specs.declared.flags.Entered.{Entered}
use Rattle.fused_parts.specs.declared.flags.Entered.TheVariants.{Never}
use Rattle.fused_parts.specs.Nodes.{Links, Node, entered, entered_by}

-- no edge leads to so many
pub record AllNever (n : ℕ) (table : List Entered) : Type 0 where
  pub many : length table ≡ n
  pub each : (k : ℕ) → k < n → slice_get table k ≡ Some Never

-- the links were counted from the one table to the other
pub record Counts (links : Links) (old new : List Entered) : Type 0 where
  pub many : length new ≡ length old
  pub each : (k : ℕ) (e : Entered) → slice_get old k ≡ Some e → slice_get new k ≡ Some (entered_by k links e)

-- those are left
pub record CountsTo (links rest : Links) (old now : List Entered) : Type 0 where
  pub many : length now ≡ length old
  pub each : (k : ℕ) (e : Entered) → slice_get old k ≡ Some e
      → (f : Entered) × (slice_get now k ≡ Some f) × (entered_by k links e ≡ entered_by k rest f)

-- the edges of all configurations, to each of them and to none behind the last
pub record AreCounted (nodes : List Node) (table : List Entered) : Type 0 where
  pub many : length table ≡ suc (length nodes)
  pub each : (k : ℕ) → k < suc (length nodes) → slice_get table k ≡ Some (entered k nodes Never)

pub record AreCountedTo (nodes rest : List Node) (table : List Entered) : Type 0 where
  pub many : length table ≡ suc (length nodes)
  pub each : (k : ℕ) → k < suc (length nodes) → (f : Entered) × (slice_get table k ≡ Some f) × (entered k nodes Never ≡ entered k rest f)
