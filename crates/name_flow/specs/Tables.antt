-- What the tables of a flow answer, and when they are right for a function.
use Rattle.std.specs.Prelude.{◌≡◌, ◌↔◌, ℕ, nat_le, Bool, true, false, Option, None, Some, if◌then◌else◌, slice_get, IsSome, IsSomeAnd}
use Rattle.ir_values.specs.declared.ids.FuncId.{FuncId}
use Rattle.ir_values.specs.declared.ids.LocalId.{LocalId}
use Rattle.ir_module.specs.declared.places.Point.{Point}
use Rattle.ir_module.specs.declared.tree.Function.{Function}
use Rattle.ir_module.specs.declared.tree.Module.{Module}
use Rattle.name_flow.specs.declared.flow.Flow.{Flow}
use Rattle.name_flow.specs.code.Runs.{in_run}
use Rattle.name_flow.specs.code.Triples.{next, is_first}
use Rattle.name_flow.specs.Walks.{IsLive}

-- a name that lives at the end of a block is used at its terminator, which stands at this index
abbrev pub end_use : Bool → Option ℕ → ℕ → Option ℕ
end_use true (Some last) i = if nat_le i last then Some last else None
end_use true None i = None
end_use false last i = None

abbrev pub or_else : Option ℕ → Option ℕ → Option ℕ
or_else None later = later
or_else (Some i) later = Some i

-- the next use of x in the block from p on
abbrev pub next_use : Flow → Point → LocalId → Option ℕ
next_use flow p x =
    or_else (next flow.used p.block.0 x.0 p.index) (end_use (in_run flow.runs x.0 p.block.0) (slice_get flow.last p.block.0) p.index)

-- the answer of the flow at p: its next use of x in the block stands at or before its next definition
unfoldable pub live : Flow → Point → LocalId → Bool
live flow p x = is_first (next_use flow p x) (next flow.defined p.block.0 x.0 p.index)

-- the flow tells exactly the names that are live in this function
abbrev pub IsFlowOf : Function → Flow → Type 0
IsFlowOf f flow = (p : Point) (x : LocalId) → (live flow p x ≡ true) ↔ IsLive f p x

-- the module has a function of this number, with a body
abbrev pub HasBody : Module → FuncId → Type 0
HasBody m f = IsSomeAnd (slice_get m.funcs f.0) (λ function. IsSome function.blocks)
