-- Where a run of the printed module stands in the residue, and which values its local names have there.
use Rattle.std.specs.Prelude.{◌≡◌, ℕ, ◌+◌, ◌<◌, ⊤, ◌==◌, ◌||◌, if◌then◌else◌, Bool, true, false, Option, None, Some, List, [], ◌∷◌, ◌++◌, length, map, flat_map, take, slice_get}
use Rattle.backend_api.specs.declared.operation.ResultRef.{ResultRef}
use Rattle.backend_api.specs.declared.operation.ResultRef.TheVariants as result
use Rattle.backend_api.specs.Naming.{Naming, named_events}
use Rattle.ir_module.specs.declared.places.Point.{Point}
use Rattle.ir_values.specs.declared.int.Width.{Width}
use Rattle.ir_values.specs.declared.value.Value.{Value}
use Rattle.ir_values.specs.declared.value.Value.TheVariants as value
use Rattle.ir_values.specs.Int.{IntValue}
use Rattle.qir_meaning.specs.code.Steps.{Whole}
use Rattle.qir_meaning.specs.Effects.{is_one}
use Rattle.qir_meaning.specs.Naming.{fixed_naming}
use Rattle.qir_meaning.specs.State.{Env, State, value_at}
use Rattle.kept_items.specs.Items.{dynamic, valued}
use Rattle.kept_items.specs.declared.item.Item.{Item}
use Rattle.kept_items.specs.declared.item.Item.TheVariants as item
use Rattle.residue.specs.declared.parts.Jump.{Jump}
use Rattle.residue.specs.declared.parts.Part.{Part}
use Rattle.residue.specs.declared.parts.Residue.{Residue}
use Rattle.residue.specs.declared.parts.Tail.{Tail}
use Rattle.residue.specs.declared.parts.Tail.TheVariants as tail
use Rattle.residue.specs.Instructions.{print_items, reads}
use Rattle.residue.specs.Phases.{phase_of}
use Rattle.residue.specs.Printed.{beginning, names_of, print_phase, words}
use Rattle.residue.specs.Scopes.{item_gives, items_of, param_gives}

-- ---- states

-- what a lowered run has of the state of the source's: qubits and results have their fixed names, and nothing is allocated
abbrev pub lowered_state : Naming → State → State
lowered_state N st = record {
  answers = st.answers;
  bits = map (λ b. (N.result b.0, b.1)) st.bits;
  allocated = 0;
  held = [];
  measured = 0;
  events = named_events N st.events;
  records = st.records;
}

-- the fixed numbers of results are below r, so that no two results have one fixed name
abbrev pub RefBelow : ℕ → ResultRef → Type 0
RefBelow r (result.Id i) = i < r
RefBelow r (result.Measured j) = ⊤

abbrev pub BitsBelow : ℕ → List (ResultRef × Bool) → Type 0
BitsBelow r [] = ⊤
BitsBelow r (b ∷ bits) = RefBelow r b.0 × BitsBelow r bits

-- ---- values

-- the value of a local name
abbrev pub at_name : Env → ℕ → Option Value
at_name env x = value_at (slice_get env x)

-- the value of the Dynamic name of this number
abbrev pub value_of_number : List IntValue → ℕ → IntValue
value_of_number ds d = dynamic ds (record { 0 = d })

-- the Dynamic values that are in scope at a line of a part: its parameters and what its earlier lines give
abbrev pub scope_at : Part → ℕ → List (ℕ × Width)
scope_at p q = param_gives p ++ flat_map item_gives (items_of (take q p.lines))

abbrev pub is_in : List (ℕ × Width) → ℕ → Bool
is_in [] d = false
is_in (x ∷ scope) d = (x.0 == d) || is_in scope d

-- these have the same values in both lists
abbrev pub Keeps : List (ℕ × Width) → List IntValue → List IntValue → Type 0
Keeps scope ds ds' = (d : ℕ) → is_in scope d ≡ true → value_of_number ds' d ≡ value_of_number ds d

-- these have the values in order
abbrev pub Takes : List (ℕ × Width) → List IntValue → List IntValue → Type 0
Takes [] [] ds = ⊤
Takes (x ∷ gives) (i ∷ is) ds = (value_of_number ds x.0 ≡ i) × Takes gives is ds
Takes [] (i ∷ is) ds = ⊥
Takes (x ∷ gives) [] ds = ⊥

-- ---- the jump that a tail takes by these values; a return takes none

abbrev pub case_jump : IntValue → List (IntValue × Jump) → Jump → Jump
case_jump i [] default = default
case_jump i (c ∷ cases) default = if c.0.bits == i.bits then c.1 else case_jump i cases default

abbrev pub by_int : Value → (IntValue → Jump) → Option Jump
by_int (value.Int i) go = Some (go i)
by_int v go = None

abbrev pub taken : List IntValue → Tail → Option Jump
taken ds (tail.Jump j) = Some j
taken ds (tail.Branch a j i) = by_int (valued ds a) (λ c. if is_one c then j else i)
taken ds (tail.Switch w a j cases) = by_int (valued ds a) (λ c. case_jump c cases j)
taken ds (tail.Return a) = None

-- ---- places

-- how many ticks an item takes: one for each of its instructions; a comparison of two results reads those that aren't constants
abbrev pub ticks : Item → ℕ
ticks (item.Equal d v u) = reads v + reads u + 1
ticks x = 1

-- the phase of the last of these items, or n
abbrev pub phase_after : List (List ℕ) → ℕ → List Item → ℕ
phase_after irreversible n [] = n
phase_after irreversible n (x ∷ xs) = phase_after irreversible (phase_of irreversible x) xs

-- the entry has number 0
abbrev pub in_entry : ℕ → ℕ → Point
in_entry n i = record { func = record { 0 = 0 }; block = record { 0 = n }; index = i }

module _ (r : Residue) where
  abbrev pub naming : Naming
  naming = fixed_naming r.own_qubits r.own_results

  -- the local names of these have their values
  abbrev pub HaveValues : List (ℕ × Width) → List IntValue → Env → Type 0
  HaveValues scope ds env = (d : ℕ) → is_in scope d ≡ true → at_name env ((words r).name_of d) ≡ Some (value.Int (value_of_number ds d))

  -- so many names are defined before part n
  abbrev pub names_before : ℕ → ℕ
  names_before n = length (names_of (take n r.parts))

  -- where line q of part n begins in its block: behind the phis, the call of initialize and the instructions of earlier lines
  abbrev pub line_index : ℕ → Part → ℕ → ℕ
  line_index n p q =
      length p.params
      + (length (beginning n) + length (print_items (words r) (names_before n + length p.params) (items_of (take q p.lines))))

  -- an Adaptive run stands at line q of part n, or at its tail behind the last line
  pub record AtLine (n : ℕ) (p : Part) (q : ℕ) (ds : List IntValue) (st : State) (v : Whole) : Type 0 where
    pub at : v.at ≡ in_entry n (line_index n p q)
    pub no_waits : v.waits ≡ []
    pub state : v.state ≡ lowered_state naming st
    pub values : HaveValues (scope_at p q) ds v.env
    pub long : length v.env ≡ length (names_of r.parts)
    pub bits : BitsBelow r.own_results st.bits

  -- Base: how many instructions stand before what follows these items, in the block of the last one's phase; block 0 holds the call of
  -- initialize
  abbrev pub base_index : ℕ → List Item → ℕ
  base_index n xs = if n == 0 then 1 else length (print_phase r n xs)

  -- a Base run stands behind the lines before line q of the one part
  pub record AtBase (p : Part) (q : ℕ) (st : State) (v : Whole) : Type 0 where
    pub at : v.at
        ≡ in_entry (phase_after r.irreversible 0 (items_of (take q p.lines)))
        (base_index (phase_after r.irreversible 0 (items_of (take q p.lines))) (items_of (take q p.lines)))
    pub no_waits : v.waits ≡ []
    pub state : v.state ≡ lowered_state naming st
    pub bits : BitsBelow r.own_results st.bits
