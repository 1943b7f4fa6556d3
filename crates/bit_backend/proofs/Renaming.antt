-- Other names for qubits and results.
use Rattle.std.proofs.Common.{◌≡◌, ℕ, Bool, true, false, not, ◌||◌, ◌&&◌, if◌then◌else◌, List, [], ◌∷◌, ◌++◌, Option, None, Some, fold, map, flat_map, Contains, IfSome, is_some, refl, sym, ap, subst, ◌∙◌, arith, codes, inl, inr}
use Rattle.std.specs.Bool.{Decides}
use Rattle.std.specs.Option.{option_map, option_map_or}
use Rattle.std.proofs.lemmas.Bool.Decides.{Decides-eqb, same_from_decides}
use Rattle.std.proofs.lemmas.Grind.{flat_map-append}
use Rattle.std.proofs.lemmas.List.{append-nil, map-append}
use Rattle.std.proofs.lemmas.List.Elements.{Contains-append_cases, Contains-append_left, Contains-append_right}
use Rattle.backend_api.specs.declared.operation.Answer.TheVariants as answer
use Rattle.backend_api.specs.declared.operation.Arg.{Arg}
use Rattle.backend_api.specs.declared.operation.Event.{Event}
use Rattle.backend_api.specs.declared.operation.Op.{Op}
use Rattle.backend_api.specs.declared.operation.QubitRef.{QubitRef}
use Rattle.backend_api.specs.declared.operation.QubitRef.TheVariants as qubit
use Rattle.backend_api.specs.Naming.{IsInjectiveOn, Naming, named_arg, named_event, named_events, named_op}
use Rattle.backend_api.specs.Operations.{qubits_in, qubits_of, qubits_of_arg, same_qubit}
use Rattle.bit_backend.specs.declared.action.Action.{Action}
use Rattle.bit_backend.specs.declared.action.Action.TheVariants as action
use Rattle.bit_backend.specs.Actions.{QubitBits, action_of, after_action, answer_to, can, flipped, is_named, measuring, on_args, on_one, on_three, on_two, with_bit}
use Rattle.bit_backend.specs.Bits.{after_event, bit_after, fits, fits_behind, is_answered, same_answer}
use Rattle.bit_backend.proofs.Shapes.{by_shape}

same_qubit-Decides : (a b : QubitRef) → Decides (same_qubit a b) (a ≡ b)
same_qubit-Decides (qubit.Id i) (qubit.Id j) = (λ e. ap qubit.Id ((Decides-eqb i j).0 e), λ e. (Decides-eqb i j).1 (cc))
same_qubit-Decides (qubit.Id i) (qubit.Alloc j) = (λ e. cc, λ e. cc)
same_qubit-Decides (qubit.Alloc i) (qubit.Id j) = (λ e. cc, λ e. cc)
same_qubit-Decides (qubit.Alloc i) (qubit.Alloc j) = (λ e. ap qubit.Alloc ((Decides-eqb i j).0 e), λ e. (Decides-eqb i j).1 (cc))

module _ (N : Naming) where
  abbrev named_action : Action → Action
  named_action (action.Flip q) = action.Flip (N.qubit q)
  named_action (action.Reset q) = action.Reset (N.qubit q)
  named_action (action.Swap a b) = action.Swap (N.qubit a) (N.qubit b)
  named_action (action.FlipIf c t) = action.FlipIf (N.qubit c) (N.qubit t)
  named_action (action.FlipIfBoth c d t) = action.FlipIfBoth (N.qubit c) (N.qubit d) (N.qubit t)
  named_action (action.Measure q) = action.Measure (N.qubit q)
  named_action (action.MeasureAndReset q) = action.MeasureAndReset (N.qubit q)

  module _ (Known : QubitRef → Type 0) (apart : (p q : QubitRef) → Known p → Known q → N.qubit p ≡ N.qubit q → p ≡ q) where
    same-named : (p q : QubitRef) → Known p → Known q → same_qubit (N.qubit p) (N.qubit q) ≡ same_qubit p q
    same-named p q kp kq =
        let d = same_qubit-Decides (N.qubit p) (N.qubit q) in
        same_from_decides (same_qubit (N.qubit p) (N.qubit q)) (same_qubit p q) (λ e. apart p q kp kq (d.0 e), λ e. d.1 (ap N.qubit e)) (same_qubit-Decides p q)

    abbrev AllKnown : Action → Type 0
    AllKnown (action.Flip q) = Known q
    AllKnown (action.Reset q) = Known q
    AllKnown (action.Swap a b) = Known a × Known b
    AllKnown (action.FlipIf c t) = Known c × Known t
    AllKnown (action.FlipIfBoth c d t) = Known c × Known d × Known t
    AllKnown (action.Measure q) = Known q
    AllKnown (action.MeasureAndReset q) = Known q

    -- the first is the second with other names, and names known qubits alone
    abbrev Follows : Option Action → Option Action → Type 0
    Follows new old = (new ≡ option_map named_action old) × IfSome old AllKnown

    does : (t : Bool) (a : Action) (new old : Option Action) → AllKnown a → Follows new old → Follows (if t then Some (named_action a) else new) (if t then Some a else old)
    does true a new old k f = (refl, k)
    does false a new old k f = f

    stops : (t : Bool) (new old : Option Action) → Follows new old → Follows (if t then None else new) (if t then None else old)
    stops true new old f = (refl, tt)
    stops false new old f = f

    abbrev nothing : Follows None None
    nothing = (refl, tt)

    abbrev Renamed : List ℕ → List Arg → Option Action → Type 0
    Renamed name args o = ((q : QubitRef) → Contains (flat_map qubits_of_arg args) q → Known q) → Follows (on_args name (map (named_arg N) args)) o

    renamed_one : (name : List ℕ) (q : QubitRef) → Known q → Follows (on_one name (N.qubit q)) (on_one name q)
    renamed_one name q k = does (is_named name (codes "x")) (action.Flip q) _ _ k (does (is_named name (codes "reset")) (action.Reset q) _ _ k nothing)

    renamed_measuring : (name : List ℕ) (q : QubitRef) → Known q → Follows (measuring name (N.qubit q)) (measuring name q)
    renamed_measuring name q k =
        does (is_named name (codes "mz") || is_named name (codes "m")) (action.Measure q) _ _ k
        (does (is_named name (codes "mresetz")) (action.MeasureAndReset q) _ _ k nothing)

    renamed_two : (name : List ℕ) (a b : QubitRef) → Known a → Known b → Follows (on_two name (N.qubit a) (N.qubit b)) (on_two name a b)
    renamed_two name a b ka kb =
        rw (same-named a b ka kb)
        (stops (same_qubit a b) _ _
        (does (is_named name (codes "swap")) (action.Swap a b) _ _ (ka, kb)
        (does (is_named name (codes "cnot") || is_named name (codes "cx")) (action.FlipIf a b) _ _ (ka, kb) nothing)))

    renamed_three : (name : List ℕ) (a b c : QubitRef) → Known a → Known b → Known c → Follows (on_three name (N.qubit a) (N.qubit b) (N.qubit c)) (on_three name a b c)
    renamed_three name a b c ka kb kc =
        rw (same-named a b ka kb, same-named a c ka kc, same-named b c kb kc)
        (stops (same_qubit a b || same_qubit a c || same_qubit b c) _ _ (does (is_named name (codes "ccx")) (action.FlipIfBoth a b c) _ _ (ka, kb, kc) nothing))

    renamed : (name : List ℕ) (args : List Arg) → Renamed name args (on_args name args)
    renamed name =
        by_shape name (Renamed name) (λ q known. renamed_one name q (known q (0, omega arith, refl))) (λ q r known. renamed_measuring name q (known q (0, omega arith, refl)))
        (λ a b known. renamed_two name a b (known a (0, omega arith, refl)) (known b (1, omega arith, refl)))
        (λ a b c known. renamed_three name a b c (known a (0, omega arith, refl)) (known b (1, omega arith, refl)) (known c (2, omega arith, refl)))
        (λ args unknown known. (unknown N name, tt))

    -- bits under other names
    abbrev Agree : QubitBits → QubitBits → Type 0
    Agree new old = (q : QubitRef) → Known q → new (N.qubit q) ≡ old q

    agree-with_bit : (new old : QubitBits) → Agree new old → (q : QubitRef) (b c : Bool) → Known q → b ≡ c → Agree (with_bit (N.qubit q) b new) (with_bit q c old)
    agree-with_bit new old agree q b c k e p kp = rw (same-named q p k kp, agree p kp, e)

    agree-flipped : (new old : QubitBits) → Agree new old → (q : QubitRef) → Known q → Agree (flipped (N.qubit q) new) (flipped q old)
    agree-flipped new old agree q k = agree-with_bit new old agree q (not (new (N.qubit q))) (not (old q)) k (ap not (agree q k))

    agree-if : (t u : Bool) (new new' old old' : QubitBits) → t ≡ u → Agree new old → Agree new' old' → Agree (if t then new else new') (if u then old else old')
    agree-if true true new new' old old' e f g = f
    agree-if false false new new' old old' e f g = g
    agree-if true false new new' old old' e f g = cc
    agree-if false true new new' old old' e f g = cc

    agree-action : (new old : QubitBits) → Agree new old → (a : Action) → AllKnown a → Agree (after_action (named_action a) new) (after_action a old)
    agree-action new old agree (action.Flip q) k = agree-flipped new old agree q k
    agree-action new old agree (action.Reset q) k = agree-with_bit new old agree q false false k refl
    agree-action new old agree (action.Swap a b) k =
        agree-with_bit (with_bit (N.qubit b) (new (N.qubit a)) new) (with_bit b (old a) old) (agree-with_bit new old agree b (new (N.qubit a)) (old a) k.1 (agree a k.0)) a
        (new (N.qubit b)) (old b) k.0 (agree b k.1)
    agree-action new old agree (action.FlipIf c t) k = agree-if _ _ _ _ _ _ (agree c k.0) (agree-flipped new old agree t k.1) agree
    agree-action new old agree (action.FlipIfBoth c d t) k =
        agree-if _ _ _ _ _ _ (λ i. agree c k.0 i && agree d k.1 i) (agree-flipped new old agree t k.2) agree
    agree-action new old agree (action.Measure q) k = agree
    agree-action new old agree (action.MeasureAndReset q) k = agree-with_bit new old agree q false false k refl

    answer-action : (new old : QubitBits) → Agree new old → (a : Action) → AllKnown a → answer_to (named_action a) new ≡ answer_to a old
    answer-action new old agree (action.Flip q) k = refl
    answer-action new old agree (action.Reset q) k = refl
    answer-action new old agree (action.Swap a b) k = refl
    answer-action new old agree (action.FlipIf c t) k = refl
    answer-action new old agree (action.FlipIfBoth c d t) k = refl
    answer-action new old agree (action.Measure q) k = ap answer.Bit (agree q k)
    answer-action new old agree (action.MeasureAndReset q) k = ap answer.Bit (agree q k)

    -- an operation all of whose qubits are known, and such events
    abbrev KnownOp : Op → Type 0
    KnownOp op = (q : QubitRef) → Contains (qubits_of op) q → Known q

    abbrev KnownEvents : List Event → Type 0
    KnownEvents es = (q : QubitRef) → Contains (qubits_in es) q → Known q

    first_known : (e : Event) (es : List Event) → KnownEvents (e ∷ es) → KnownOp e.op
    first_known e es known q has = known q (Contains-append_left (qubits_of e.op) (qubits_in es) q has)

    rest_known : (e : Event) (es : List Event) → KnownEvents (e ∷ es) → KnownEvents es
    rest_known e es known q has = known q (Contains-append_right (qubits_of e.op) (qubits_in es) q has)

    pub renamed_op : (op : Op) → KnownOp op → Follows (action_of (named_op N op)) (action_of op)
    renamed_op op known = renamed op.name op.args known

    -- what is done with an action and with the renamed one, or where there is none
    agree-event : (new old : QubitBits) → Agree new old → (a' a : Option Action) → Follows a' a
        → Agree (option_map_or (λ a. after_action a new) a' new) (option_map_or (λ a. after_action a old) a old)
    agree-event new old agree a' None f = rw f.0 agree
    agree-event new old agree a' (Some a) f = rw f.0 (agree-action new old agree a f.1)

    pub agree-events : (new old : QubitBits) → Agree new old → (es : List Event) → KnownEvents es → Agree (fold after_event new (named_events N es)) (fold after_event old es)
    agree-events new old agree [] known = agree
    agree-events new old agree (e ∷ es) known =
        agree-events (after_event new (named_event N e)) (after_event old e)
        (agree-event new old agree (action_of (named_op N e.op)) (action_of e.op) (renamed_op e.op (first_known e es known))) es (rest_known e es known)

    pub agree-after : (es : List Event) → KnownEvents es → Agree (bit_after (named_events N es)) (bit_after es)
    agree-after es known = agree-events (λ _. false) (λ _. false) (λ q k. refl) es known

    answer-option : (new old : QubitBits) → Agree new old → (a' a : Option Action) → Follows a' a → option_map (λ a. answer_to a new) a' ≡ option_map (λ a. answer_to a old) a
    answer-option new old agree a' None f = rw f.0
    answer-option new old agree a' (Some a) f = rw f.0 (ap Some (answer-action new old agree a f.1))

    same-answered : (before : List Event) (e : Event) → KnownEvents before → KnownOp e.op → is_answered (named_events N before) (named_event N e) ≡ is_answered before e
    same-answered before e known known_op =
        ap (λ a. option_map_or (same_answer e.answer) a false)
        (answer-option (bit_after (named_events N before)) (bit_after before) (agree-after before known) (action_of (named_op N e.op)) (action_of e.op) (renamed_op e.op known_op))

    known-push : (before : List Event) (e : Event) → KnownEvents before → KnownOp e.op → KnownEvents (before ++ e ∷ [])
    known-push before e known known_op q has =
        let split = flat_map-append (λ (e : Event). qubits_of e.op) before (e ∷ []) ∙ ap (λ qs. qubits_in before ++ qs) (append-nil (qubits_of e.op)) in
        elim (Contains-append_cases (qubits_in before) (qubits_of e.op) q (subst (λ qs. Contains qs q) split has)) [ inl h ↦ known q h | inr h ↦ known_op q h ]

    pub same-fits : (before es : List Event) → KnownEvents before → KnownEvents es → fits_behind (named_events N before) (named_events N es) ≡ fits_behind before es
    same-fits before [] known more = refl
    same-fits before (e ∷ es) known more =
        let one = same-answered before e known (first_known e es more) in
        let rest = same-fits (before ++ e ∷ []) es (known-push before e known (first_known e es more)) (rest_known e es more) in
        let named = ap (λ b. fits_behind b (named_events N es)) (sym (map-append (named_event N) before (e ∷ []))) ∙ rest in
        λ i. one i && named i

-- the laws
pub keeps-bits : (N : Naming) (es : List Event) (q : QubitRef) → IsInjectiveOn N (q ∷ qubits_in es) → bit_after (named_events N es) (N.qubit q) ≡ bit_after es q
keeps-bits N es q apart =
    agree-after N (Contains (q ∷ qubits_in es)) apart es (λ p has. Contains-append_right (q ∷ []) (qubits_in es) p has) q (0, omega arith, refl)

pub keeps-operations : (N : Naming) (op : Op) → IsInjectiveOn N (qubits_of op) → can (named_op N op) ≡ can op
keeps-operations N op apart = by (action_of op) (renamed_op N (Contains (qubits_of op)) apart op (λ q has. has)).0
  where
    by : (a : Option Action) → action_of (named_op N op) ≡ option_map (named_action N) a → can (named_op N op) ≡ is_some a
    by None e = rw e
    by (Some a) e = rw e

pub keeps-fits : (N : Naming) (es : List Event) → IsInjectiveOn N (qubits_in es) → fits (named_events N es) ≡ fits es
keeps-fits N es apart = same-fits N (Contains (qubits_in es)) apart [] es (λ q has. absurd (omega (arith, has.1))) (λ q has. has)
