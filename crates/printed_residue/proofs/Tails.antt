-- What the printed terminators do.
use Rattle.std.proofs.Common.{◌≡◌, ℕ, zero, suc, ◌+◌, ◌-◌, Option, None, Some, List, [], ◌∷◌, length, map, refl, ap, ◌∙◌, arith}
use Rattle.std.proofs.lemmas.Option.{slice_get_past}
use Rattle.std.specs.Prelude.{⊤, ◌==◌, if◌then◌else◌, Bool, true, false, slice_get}
use Rattle.ir_module.specs.declared.tree.Block.{Block}
use Rattle.ir_module.specs.declared.tree.Module.{Module}
use Rattle.ir_module.specs.declared.tree.Term.{Term}
use Rattle.ir_module.specs.declared.tree.Term.TheVariants as term
use Rattle.ir_module.specs.Steps.{Step, PhiAt, InstAt, TermAt, NoStep, step_at, step_in_module}
use Rattle.ir_values.specs.declared.ids.BlockId.{BlockId}
use Rattle.ir_values.specs.declared.ids.FuncId.{FuncId}
use Rattle.ir_values.specs.declared.value.Value.{Value}
use Rattle.ir_values.specs.declared.value.Value.TheVariants as value
use Rattle.ir_values.specs.Int.{IntValue}
use Rattle.qir_meaning.specs.Effects.{is_one}
use Rattle.qir_meaning.specs.Moves.{move, step_move, ends, phis_take, block_in, jump, leads_to, arrives, target_of, with_value, with_int}
use Rattle.qir_meaning.specs.Naming.{fixed_naming}
use Rattle.qir_meaning.specs.code.Simulation.{GoesBy}
use Rattle.qir_meaning.specs.State.{Env, State, value_at, value_of}
use Rattle.qir_meaning.specs.State as run
use Rattle.qir_meaning.specs.code.Steps.{returned, Whole, Tick, On, Off, tick, tick_of}
use Rattle.residue.specs.declared.parts.Jump.{Jump}
use Rattle.residue.specs.declared.parts.Tail.{Tail}
use Rattle.residue.specs.declared.parts.Tail.TheVariants as tail
use Rattle.kept_items.specs.declared.val.Val.{Val}
use Rattle.residue.specs.Instructions.{Words, block_number, named_value, print_tail}
use Rattle.kept_items.specs.Items.{valued}
use Rattle.printed_residue.specs.Places.{by_int, case_jump, lowered_state, taken}
use Rattle.printed_residue.proofs.Steps.{Has, past, point, step-is, operand-has}

-- the value that a tail chooses by has its name
abbrev pub TailHas : Words → List IntValue → Env → Tail → Type 0
TailHas ws ds env (tail.Jump j) = ⊤
TailHas ws ds env (tail.Branch a j i) = Has ws ds env a
TailHas ws ds env (tail.Switch w a j cases) = Has ws ds env a
TailHas ws ds env (tail.Return a) = Has ws ds env a

-- through so many blocks that hold nothing more: at the end of one, on to the next, which has no phis
abbrev pub Walk : Module → FuncId → ℕ → BlockId → Block → ℕ → BlockId → Block → ℕ → Type 0
Walk l f zero c b j c' b' j' = (c ≡ c') × (b ≡ b') × (j ≡ j')
Walk l f (suc n) c b j c' b' j' =
    (j ≡ length b.insts) × (d : BlockId) × (e : Block) × (b.term ≡ term.Br d) × (block_in l f d ≡ Some e) × (e.phis ≡ []) × Walk l f n d e 0 c' b' j'

abbrev or-else : {A : Type 0} → Option A → (A → Step) → Step → Step
or-else None f s = s
or-else (Some x) f s = f x

abbrev ending : Term → ℕ → Step
ending t zero = TermAt t
ending t (suc n) = NoStep

term-behind : (b : Block) → step_at b (length b.phis + length b.insts) ≡ TermAt b.term
term-behind b =
    let n : ℕ = length b.phis + length b.insts in
    let e : n - length b.phis ≡ length b.insts = omega arith in
    let z : n - n ≡ 0 = omega arith in
    ap (λ o. or-else o PhiAt (or-else (slice_get b.insts (n - length b.phis)) InstAt (ending b.term (n - n)))) (past b.phis (length b.insts))
    ∙ ap (λ o. or-else o InstAt (ending b.term (n - n))) (slice_get_past b.insts (n - length b.phis) (omega (arith, e)))
    ∙ ap (ending b.term) z

-- the tick of a block's terminator
pub term-tick : (l : Module) (f : FuncId) (c : BlockId) (b : Block) (v : Whole) → block_in l f c ≡ Some b → v.at ≡ point f c (length b.phis + length b.insts) → tick l v ≡ tick_of v (ends l v.at v.env v.state b.term)
unfolding tick move
term-tick l f c b v hb hp = ap (λ s. tick_of v (step_move l v.at v.env v.state s)) (ap (step_in_module l) hp ∙ step-is l (point f c (length b.phis + length b.insts)) b hb ∙ term-behind b)

-- a switch leads to the block of the jump that it takes
switch-target : (i : IntValue) (cases : List (IntValue × Jump)) (j : Jump) → target_of i (map (λ c. (c.0, block_number c.1.to)) cases) (block_number j.to) ≡ block_number (case_jump i cases j).to
switch-target i [] j = refl
switch-target i (c ∷ cases) j = by-test (c.0.bits == i.bits) (switch-target i cases j)
  where
    by-test : (t : Bool) → target_of i (map (λ c. (c.0, block_number c.1.to)) cases) (block_number j.to) ≡ block_number (case_jump i cases j).to → (if t then block_number c.1.to else target_of i (map (λ c. (c.0, block_number c.1.to)) cases) (block_number j.to)) ≡ block_number (if t then c.1 else case_jump i cases j).to
    by-test true h = refl
    by-test false h = h

module _ (l : Module) (f : FuncId) (ws : Words) (c : BlockId) (b : Block) (here : block_in l f c ≡ Some b) where
  abbrev standing : BlockId → Block → ℕ → Env → State → Whole
  standing d e j env st = record { at = point f d (length e.phis + j); env = env; waits = []; state = lowered_state (fixed_naming ws.qubits ws.results) st }

  module _ (ds : List IntValue) (env : Env) (st : State) where
    abbrev v : Whole
    v = standing c b (length b.insts) env st

    abbrev goes-to : Jump → Tick
    goes-to j = tick_of v (jump l v.at env v.state (block_number j.to))

    at-end : (t : Tail) → b.term ≡ print_tail ws t → tick l v ≡ tick_of v (ends l v.at env v.state (print_tail ws t))
    at-end t e = term-tick l f c b v here refl ∙ ap (λ x. tick_of v (ends l v.at env v.state x)) e

    -- the terminator leads to the block of the jump that the tail takes
    pub tail-goes : (t : Tail) (j : Jump) → TailHas ws ds env t → taken ds t ≡ Some j → b.term ≡ print_tail ws t → tick l v ≡ goes-to j
    tail-goes (tail.Jump j') j i h e = at-end (tail.Jump j') e ∙ (let s : j' ≡ j = cc in ap goes-to s)
    tail-goes (tail.Branch a j' i') j i h e = at-end (tail.Branch a j' i') e ∙ ap (λ o. tick_of v (with_value o v.state (λ u. with_int u (λ n. jump l v.at env v.state (if is_one n then block_number j'.to else block_number i'.to))))) (operand-has ws ds env a i) ∙ by-value (valued ds a) h
      where
        by-bit : (t : Bool) → tick_of v (jump l v.at env v.state (if t then block_number j'.to else block_number i'.to)) ≡ goes-to (if t then j' else i')
        by-bit true = refl
        by-bit false = refl

        by-value : (u : Value) → by_int u (λ n. if is_one n then j' else i') ≡ Some j → tick_of v (with_int (named_value ws u) (λ n. jump l v.at env v.state (if is_one n then block_number j'.to else block_number i'.to))) ≡ goes-to j
        by-value (value.Int n) h = by-bit (is_one n) ∙ (let s : (if is_one n then j' else i') ≡ j = cc in ap goes-to s)
        by-value u h = cc
    tail-goes (tail.Switch w a j' cases) j i h e = at-end (tail.Switch w a j' cases) e ∙ ap (λ o. tick_of v (with_value o v.state (λ u. with_int u (λ n. jump l v.at env v.state (target_of n (map (λ c. (c.0, block_number c.1.to)) cases) (block_number j'.to)))))) (operand-has ws ds env a i) ∙ by-value (valued ds a) h
      where
        by-value : (u : Value) → by_int u (λ n. case_jump n cases j') ≡ Some j → tick_of v (with_int (named_value ws u) (λ n. jump l v.at env v.state (target_of n (map (λ c. (c.0, block_number c.1.to)) cases) (block_number j'.to)))) ≡ goes-to j
        by-value (value.Int n) h = ap (λ d. tick_of v (jump l v.at env v.state d)) (switch-target n cases j') ∙ (let s : case_jump n cases j' ≡ j = cc in ap goes-to s)
        by-value u h = cc
    tail-goes (tail.Return a) j i h e = cc

    pub tail-returns : (a : Val) → Has ws ds env a → b.term ≡ print_tail ws (tail.Return a) → tick l v ≡ Off (returned (Some (named_value ws (valued ds a))) v.state)
    tail-returns a i e = at-end (tail.Return a) e ∙ ap (λ o. tick_of v (with_value o v.state (λ u. run.Back (Some u)))) (operand-has ws ds env a i)

  -- along an edge to a block whose phis take their values
  pub edge-goes : (n : ℕ) (env env' : Env) (st : State) (w : Whole) (d : BlockId) (e : Block) → w.waits ≡ [] → block_in l f d ≡ Some e → phis_take e.phis c env env ≡ Some env' → tick_of w (jump l (point f c n) env (lowered_state (fixed_naming ws.qubits ws.results) st) d) ≡ On (standing d e 0 env' st)
  edge-goes n env env' st w d e none h p =
      ap (λ o. tick_of w (leads_to l (point f c n) env (lowered_state (fixed_naming ws.qubits ws.results) st) d o)) h
      ∙ ap (λ o. tick_of w (arrives l (point f c n) env (lowered_state (fixed_naming ws.qubits ws.results) st) d e o)) p
      ∙ ap (λ us. On (record { at = point f d (length e.phis); env = env'; waits = us; state = lowered_state (fixed_naming ws.qubits ws.results) st })) none
      ∙ ap (λ m. On (record { at = point f d m; env = env'; waits = []; state = lowered_state (fixed_naming ws.qubits ws.results) st })) (let z : length e.phis ≡ length e.phis + 0 = omega arith in z)

-- through blocks that hold nothing more
module _ (l : Module) (f : FuncId) (ws : Words) where
  abbrev within : BlockId → Block → ℕ → Env → State → Whole
  within c b j env st = record { at = point f c (length b.phis + j); env = env; waits = []; state = lowered_state (fixed_naming ws.qubits ws.results) st }

  pub walk-goes : (n : ℕ) (c : BlockId) (b : Block) (j : ℕ) (c' : BlockId) (b' : Block) (j' : ℕ) (env : Env) (st : State) → block_in l f c ≡ Some b → Walk l f n c b j c' b' j' → GoesBy l n (within c b j env st) (within c' b' j' env st)
  walk-goes zero c b j c' b' j' env st h w =
      ap (λ x. within x b j env st) w.0 ∙ ap (λ x. within c' x j env st) w.1 ∙ ap (λ x. within c' b' x env st) w.2
  walk-goes (suc n) c b j c' b' j' env st h w =
      let d : BlockId = w.1 in
      let e : Block = w.2 in
      let there : within c b j env st ≡ within c b (length b.insts) env st = ap (λ x. within c b x env st) w.0 in
      let landed : tick l (within c b (length b.insts) env st) ≡ On (within d e 0 env st) =
      term-tick l f c b (within c b (length b.insts) env st) h refl
      ∙ ap (λ x. tick_of (within c b (length b.insts) env st) (ends l (point f c (length b.phis + length b.insts)) env (lowered_state (fixed_naming ws.qubits ws.results) st) x)) w.3
      ∙ edge-goes l f ws c b h (length b.phis + length b.insts) env env st (within c b (length b.insts) env st) d e refl w.4 (ap (λ ps. phis_take ps c env env) w.5) in
      (within d e 0 env st, ap (tick l) there ∙ landed, walk-goes n d e 0 c' b' j' env st w.4 w.6)
