-- What the two backends answer.
use Rattle.std.proofs.Common.{◌≡◌, ◌⊎◌, inl, inr, ℕ, ◌||◌, Bool, true, false, Option, None, Some, is_some, List, [], ◌∷◌, ◌++◌, length, count_by, IfSome, refl, sym, ap, ◌∙◌, subst, arith, append_assoc, append-nil, length-append, true≢false, codes}
use Rattle.std.specs.Option.{option_map, option_map_or}
use Rattle.std.proofs.lemmas.Bool.{and_parts}
use Rattle.std.proofs.lemmas.Grind.{flat_map-append}
use Rattle.std.proofs.lemmas.List.{append_cancel_left}
use Rattle.backend_api.specs.declared.operation.Answer.{Answer}
use Rattle.backend_api.specs.declared.operation.Answer.TheVariants as answer
use Rattle.backend_api.specs.declared.operation.Arg.{Arg}
use Rattle.backend_api.specs.declared.operation.Event.{Event}
use Rattle.backend_api.specs.declared.operation.Op.{Op}
use Rattle.backend_api.specs.declared.operation.QubitRef.{QubitRef}
use Rattle.backend_api.specs.Operations.{bits_in, bits_of_answer, is_result, same_qubit}
use Rattle.bit_backend.specs.Actions.{QubitBits, action_of, answer_to, can, is_named, measuring, on_args, on_one, on_two, on_three}
use Rattle.bit_backend.specs.Bits.{answer_after, bit_after, fits, fits_behind, is_answered, same_answer}
use Rattle.bit_backend.proofs.Histories.{fits-answered}
use Rattle.bit_backend.proofs.Shapes.{by_shape}
use Rattle.output_lines.specs.declared.last.StopName.{StopName}
use Rattle.output_lines.specs.declared.last.StopName.TheVariants as stop
use Rattle.shots.specs.declared.backend.Backend.{Backend}
use Rattle.shots.specs.declared.backend.Backend.TheVariants.{Script, Bits}
use Rattle.shots.specs.Shots.{Gives, Lacks}
use Rattle.shots.proofs.Turning.{event, is_for, results_for}

-- ---- what classical bits answer is of the operation's kind

-- an answer, where there is one, is of the kind that so many results have
abbrev IsKind : ℕ → Option Answer → Type 0
IsKind n o = (measures : Bool) → n ≡ results_for measures → IfSome o (λ x. is_for measures x ≡ true)

done-kind : IsKind 0 (Some answer.Done)
done-kind true e = absurd (omega (arith, e))
done-kind false e = refl

bit-kind : (b : Bool) → IsKind 1 (Some (answer.Bit b))
bit-kind b true e = refl
bit-kind b false e = absurd (omega (arith, e))

no-kind : (n : ℕ) → IsKind n None
no-kind n measures e = tt

module _ (bits : QubitBits) (name : List ℕ) where
  one-kind : (q : QubitRef) → IsKind 0 (option_map (λ act. answer_to act bits) (on_one name q))
  one-kind q = by (is_named name (codes "x")) refl (is_named name (codes "reset")) refl
    where
      by : (b : Bool) → is_named name (codes "x") ≡ b → (c : Bool) → is_named name (codes "reset") ≡ c → IsKind 0 (option_map (λ act. answer_to act bits) (on_one name q))
      by true e c f = rw e done-kind
      by false e true f = rw (e, f) done-kind
      by false e false f = rw (e, f) (no-kind 0)

  measuring-kind : (q : QubitRef) → IsKind 1 (option_map (λ act. answer_to act bits) (measuring name q))
  measuring-kind q = by (is_named name (codes "mz") || is_named name (codes "m")) refl (is_named name (codes "mresetz")) refl
    where
      by : (b : Bool) → (is_named name (codes "mz") || is_named name (codes "m")) ≡ b → (c : Bool) → is_named name (codes "mresetz") ≡ c
          → IsKind 1 (option_map (λ act. answer_to act bits) (measuring name q))
      by true e c f = rw e (bit-kind (bits q))
      by false e true f = rw (e, f) (bit-kind (bits q))
      by false e false f = rw (e, f) (no-kind 1)

  two-kind : (p q : QubitRef) → IsKind 0 (option_map (λ act. answer_to act bits) (on_two name p q))
  two-kind p q = by (same_qubit p q) refl (is_named name (codes "swap")) refl (is_named name (codes "cnot") || is_named name (codes "cx")) refl
    where
      by : (a : Bool) → same_qubit p q ≡ a → (b : Bool) → is_named name (codes "swap") ≡ b → (c : Bool) → (is_named name (codes "cnot") || is_named name (codes "cx")) ≡ c
          → IsKind 0 (option_map (λ act. answer_to act bits) (on_two name p q))
      by true d b e c f = rw d (no-kind 0)
      by false d true e c f = rw (d, e) done-kind
      by false d false e true f = rw (d, e, f) done-kind
      by false d false e false f = rw (d, e, f) (no-kind 0)

  three-kind : (p q r : QubitRef) → IsKind 0 (option_map (λ act. answer_to act bits) (on_three name p q r))
  three-kind p q r = by (same_qubit p q || same_qubit p r || same_qubit q r) refl (is_named name (codes "ccx")) refl
    where
      by : (a : Bool) → (same_qubit p q || same_qubit p r || same_qubit q r) ≡ a → (b : Bool) → is_named name (codes "ccx") ≡ b
          → IsKind 0 (option_map (λ act. answer_to act bits) (on_three name p q r))
      by true d b e = rw d (no-kind 0)
      by false d true e = rw (d, e) done-kind
      by false d false e = rw (d, e) (no-kind 0)

  args-kind : (args : List Arg) → IsKind (count_by is_result args) (option_map (λ act. answer_to act bits) (on_args name args))
  args-kind args =
      by_shape name (λ xs o. IsKind (count_by is_result xs) (option_map (λ act. answer_to act bits) o)) one-kind (λ q r. measuring-kind q) two-kind three-kind
      (λ xs unknown. no-kind (count_by is_result xs)) args

-- the answer to an operation that can be done
answer-kind : (bits : QubitBits) (op : Op) (measures : Bool) (act : _) → action_of op ≡ Some act → count_by is_result op.args ≡ results_for measures → is_for measures (answer_to act bits) ≡ true
answer-kind bits op measures act e n =
    subst (λ o. IfSome (option_map (λ a. answer_to a bits) o) (λ x. is_for measures x ≡ true)) e (args-kind bits op.name op.args measures n)

-- ---- one answer more

-- what a backend does with an operation after these events
abbrev pub Next : Backend → List Event → Op → Bool → Type 0
Next b h op measures = ((x : Answer) × (is_for measures x ≡ true) × Gives b (h ++ event op x ∷ [])) ⊎ ((why : StopName) × Lacks b h op why)

bits-append : (h : List Event) (op : Op) (x : Answer) (es : List Event) → bits_in (h ++ event op x ∷ es) ≡ bits_in h ++ (bits_of_answer x ++ bits_in es)
bits-append h op x es = flat_map-append (λ e. bits_of_answer e.answer) h (event op x ∷ es)

script-next : (bits : List Bool) (h : List Event) (op : Op) (measures : Bool) → count_by is_result op.args ≡ results_for measures → (left : List Bool) → bits ≡ bits_in h ++ left → Next (Script bits) h op measures
script-next bits h op false n left e = inl (answer.Done, refl, (left, e ∙ ap (λ l. l ++ left) (sym (bits-append h op answer.Done [] ∙ append-nil (bits_in h)))))
script-next bits h op true n [] e = inr (stop.Empty, (n, sym (append-nil (bits_in h)) ∙ sym e, refl))
script-next bits h op true n (b ∷ left) e =
    inl (answer.Bit b, refl, (left, e ∙ sym (append_assoc (bits_in h) (b ∷ []) left) ∙ ap (λ l. l ++ left) (sym (bits-append h op (answer.Bit b) []))))

bits-next : (h : List Event) (op : Op) (measures : Bool) → count_by is_result op.args ≡ results_for measures → fits h ≡ true → (o : _) → action_of op ≡ o → Next Bits h op measures
bits-next h op measures n fit None e = inr (stop.Unsupported, (ap is_some e, refl))
bits-next h op measures n fit (Some act) e =
    inl (answer_to act (bit_after h), answer-kind (bit_after h) op measures act e n, fits-answered h (bit_after h) (λ p. refl) op act e fit)

pub backend-next : (b : Backend) (h : List Event) (op : Op) (measures : Bool) → count_by is_result op.args ≡ results_for measures → Gives b h → Next b h op measures
backend-next (Script bits) h op measures n g = script-next bits h op measures n g.0 g.1
backend-next Bits h op measures n g = bits-next h op measures n g (action_of op) refl

-- ---- there is one at most

-- each event that fits has the answer to its operation
fits-at : (before h es : List Event) (e : Event) → fits_behind before (h ++ e ∷ es) ≡ true → is_answered (before ++ h) e ≡ true
fits-at before [] es e f = subst (λ l. is_answered l e ≡ true) (sym (append-nil before)) (and_parts (is_answered before e) (fits_behind (before ++ e ∷ []) es) f).0
fits-at before (x ∷ h) es e f =
    subst (λ l. is_answered l e ≡ true) (append_assoc before (x ∷ []) h) (fits-at (before ++ x ∷ []) h es e (and_parts (is_answered before x) (fits_behind (before ++ x ∷ []) (h ++ e ∷ es)) f).1)

-- where a bit is answered that is one of those given
more-bits : (bits : List Bool) (h es : List Event) (op : Op) (b : Bool) (left : List Bool) → bits ≡ bits_in (h ++ event op (answer.Bit b) ∷ es) ++ left → bits ≡ bits_in h ++ (b ∷ (bits_in es ++ left))
more-bits bits h es op b left e =
    e ∙ ap (λ l. l ++ left) (bits-append h op (answer.Bit b) es) ∙ append_assoc (bits_in h) (b ∷ bits_in es) left

none-answered : (h : List Event) (op : Op) (x : Answer) (o : _) → action_of op ≡ o → is_answered h (event op x) ≡ true → can op ≡ false → ⊥
none-answered h op x None e a c = absurd (true≢false (sym (subst (λ o. option_map_or (same_answer x) (option_map (λ act. answer_to act (bit_after h)) o) false ≡ true) e a)))
none-answered h op x (Some act) e a c = absurd (true≢false (sym (ap is_some e) ∙ c))

pub never-lacks : (b : Backend) (h es : List Event) (op : Op) (measures : Bool) (x : Answer) (why : StopName) → count_by is_result op.args ≡ results_for measures → is_for measures x ≡ true
    → Gives b (h ++ event op x ∷ es) → Lacks b h op why → ⊥
never-lacks (Script bits) h es op false x why n k g l = let one = l.0 in absurd (omega (arith, n, one))
never-lacks (Script bits) h es op true answer.Done why n k g l = cc
never-lacks (Script bits) h es op true (answer.Bit b) why n k g l =
    let e : bits ≡ bits_in h ++ (b ∷ (bits_in es ++ g.0)) = more-bits bits h es op b g.0 g.1 in
    let two : length bits ≡ length (bits_in h ++ (b ∷ (bits_in es ++ g.0))) = ap length e in
    let three = length-append (bits_in h) (b ∷ (bits_in es ++ g.0)) in
    let one : length (bits_in h) ≡ length bits = ap length l.1 in
    absurd (omega (arith, one, two, three))
never-lacks Bits h es op measures x why n k g l = none-answered h op x (action_of op) refl (fits-at [] h es (event op x) g) l.0

first-same : (b c : Bool) (xs ys : List Bool) → b ∷ xs ≡ c ∷ ys → b ≡ c
first-same b c xs ys e = cc

same-known : (b c : Bool) (y : Answer) → same_answer (answer.Bit b) y ≡ true → same_answer (answer.Bit c) y ≡ true → b ≡ c
same-known true true y e f = refl
same-known false false y e f = refl
same-known true false answer.Done e f = cc
same-known true false (answer.Bit true) e f = cc
same-known true false (answer.Bit false) e f = cc
same-known false true answer.Done e f = cc
same-known false true (answer.Bit true) e f = cc
same-known false true (answer.Bit false) e f = cc

same-by : (b c : Bool) (o : Option Answer) → option_map_or (same_answer (answer.Bit b)) o false ≡ true → option_map_or (same_answer (answer.Bit c)) o false ≡ true → b ≡ c
same-by b c None e f = absurd (true≢false (sym e))
same-by b c (Some y) e f = same-known b c y e f

same-bit : (b : Backend) (h es fs : List Event) (op : Op) (s t : Bool) → Gives b (h ++ event op (answer.Bit s) ∷ es) → Gives b (h ++ event op (answer.Bit t) ∷ fs) → s ≡ t
same-bit (Script bits) h es fs op s t g k =
    first-same s t (bits_in es ++ g.0) (bits_in fs ++ k.0) (append_cancel_left (bits_in h) (s ∷ (bits_in es ++ g.0)) (t ∷ (bits_in fs ++ k.0)) (sym (more-bits bits h es op s g.0 g.1) ∙ more-bits bits h fs op t k.0 k.1))
same-bit Bits h es fs op s t g k = same-by s t (answer_after h op) (fits-at [] h es (event op (answer.Bit s)) g) (fits-at [] h fs (event op (answer.Bit t)) k)

pub same-answers : (b : Backend) (h es fs : List Event) (op : Op) (measures : Bool) (x y : Answer) → is_for measures x ≡ true → is_for measures y ≡ true
    → Gives b (h ++ event op x ∷ es) → Gives b (h ++ event op y ∷ fs) → x ≡ y
same-answers b h es fs op false answer.Done answer.Done k l g q = refl
same-answers b h es fs op false answer.Done (answer.Bit t) k l g q = cc
same-answers b h es fs op false (answer.Bit s) y k l g q = cc
same-answers b h es fs op true answer.Done y k l g q = cc
same-answers b h es fs op true (answer.Bit s) answer.Done k l g q = cc
same-answers b h es fs op true (answer.Bit s) (answer.Bit t) k l g q = ap answer.Bit (same-bit b h es fs op s t g q)

pub same-cause : (b : Backend) (h : List Event) (op : Op) (v w : StopName) → Lacks b h op v → Lacks b h op w → v ≡ w
same-cause (Script bits) h op v w l k = l.2 ∙ sym k.2
same-cause Bits h op v w l k = l.1 ∙ sym k.1

pub gives-none : (b : Backend) → Gives b []
gives-none (Script bits) = (bits, refl)
gives-none Bits = refl
