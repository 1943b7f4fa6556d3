-- The state of a reader or a writer as a source or a sink.
use Rattle.std.specs.Prelude.{ℕ, List, Option}

pub record StreamState : Type 0 where
  pub known : Option (List ℕ)  -- the bytes that the reader has left or that the writer holds, where it tells them
  pub faults : ℕ  -- the calls that failed, up to the last value of a u64
