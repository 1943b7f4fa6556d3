-- Shots that are told one after the other.
use Rattle.std.proofs.Common.{◌≡◌, ◌∙◌, ℕ, ◌-◌, ◌<◌, ◌≤◌, ◌&&◌, Bool, true, false, List, [], ◌∷◌, ◌++◌, length, take, drop, get_or, flat_map, refl, sym, ap, subst, arith, append_assoc, append-nil}
use Rattle.std.specs.Option.{option_map}
use Rattle.std.specs.Prelude.{Option, None, Some, Result, Ok, Err, IfSome, slice_get}
use Rattle.std.proofs.lemmas.Option.{slice_get_within}
use Rattle.std.proofs.lemmas.Grind.{flat_map-append}
use Rattle.admission.specs.Admitted.{IsAdmitted, IsEntryOf, greatest_required}
use Rattle.ir_module.specs.declared.tree.Module.{Module}
use Rattle.ir_module.specs.Entry.{Entry, entry_of}
use Rattle.ir_values.specs.declared.ids.FuncId.{FuncId}
use Rattle.ir_values.specs.Counts.{Rose}
use Rattle.output_lines.specs.declared.line.ShotStop.{ShotStop}
use Rattle.output_lines.specs.declared.line.ShotStop.TheVariants as stop
use Rattle.output_lines.specs.Writing.{Writes, WritesFirst, WritesPart, text_of}
use Rattle.output_lines.proofs.Writing.{takes-more, writes-follow, writes-stays}
use Rattle.qir_machine.specs.Runs.{HasMeaning}
use Rattle.qir_ports.specs.Known.{Takes}
use Rattle.shots.specs.declared.backend.Backend.{Backend}
use Rattle.shots.specs.Laws.{ShotsExist}
use Rattle.shots.specs.Shots.{IsShot, Shot}
use Rattle.run_commands.specs.Shots.{AreShots, TellsShots, all_returned, returned}

takes-nothing : (before : Option (List ℕ)) → Takes before [] before
takes-nothing None = refl
takes-nothing (Some all) = ap Some (sym (append-nil all))

pub nothing-written : (lines : List (List ℕ)) (before : Option (List ℕ)) → WritesFirst lines before before
nothing-written lines before = record { count = 0; within = omega arith; written = takes-nothing before }

-- an error says nothing of what a call gives
other-error : (A B : Type 0) (lines : List (List ℕ)) (before now : Option (List ℕ)) (f g : ℕ) (e : ShotStop) → Writes {A = A} lines before now f g (Err e) → Writes {A = B} lines before now f g (Err e)
other-error A B lines before now f g stop.Write w = w
other-error A B lines before now f g stop.Memory w = w

abbrev Nothing : Type 0
Nothing = Unit {0}

and-true : (b : Bool) → b ≡ (b && true)
and-true true = refl
and-true false = refl

pub at-some : {A : Type 0} (o : Option A) (P : A → Type 0) (x : A) → o ≡ Some x → IfSome o P → P x
at-some o P x e h = subst (λ o. IfSome o P) e h

-- ---- a list that is gone through

all-taken : {A : Type 0} (xs : List A) → take (length xs) xs ≡ xs
all-taken [] = refl
all-taken (x ∷ xs) = ap (λ l. x ∷ l) (all-taken xs)

pub first-and-rest : {A : Type 0} (x : A) (xs : List A) → 1 ≤ length xs → x ≡ get_or xs 0 x → xs ≡ x ∷ take (length xs - 1) (drop 1 xs)
first-and-rest x [] le e = absurd (omega (arith, le))
first-and-rest x (y ∷ xs) le e =
    let n : length (y ∷ xs) - 1 ≡ length xs = omega arith in
    ap (λ z. z ∷ xs) (sym e) ∙ ap (λ l. x ∷ l) (sym (ap (λ k. take k xs) n ∙ all-taken xs))

pub nothing-left : {A : Type 0} (xs : List A) → length xs < 1 → xs ≡ []
nothing-left [] lt = refl
nothing-left (x ∷ xs) lt = absurd (omega (arith, lt))

-- ---- the entry

pub entry-there : (m : Module) (g : FuncId) → IsEntryOf m g → (e : Entry) × (entry_of m ≡ Some e) × (slice_get m.funcs g.0 ≡ Some e.function)
entry-there m g h = by (entry_of m) refl h.number h.function
  where
    by : (o : Option Entry) → entry_of m ≡ o → option_map (λ e. e.number) o ≡ Some g.0 → slice_get m.funcs g.0 ≡ option_map (λ e. e.function) o
        → (e : Entry) × (entry_of m ≡ Some e) × (slice_get m.funcs g.0 ≡ Some e.function)
    by None q n f = cc
    by (Some e) q n f = (e, q, f)

pub entry-in-range : (m : Module) (g : FuncId) → IsEntryOf m g → g.0 < length m.funcs
entry-in-range m g h = let e = entry-there m g h in slice_get_within m.funcs g.0 e.0.function e.2

pub has-meaning : (m n : Module) → n ≡ m → IsAdmitted m → HasMeaning n
has-meaning m n e h = subst HasMeaning (sym e) (record { numbered = h.numbered; limit = greatest_required; typed = h.typed })

-- ---- all shots of a list

module _ (m : Module) (n : ℕ) where
  -- there is a shot with each backend
  abbrev pub EachHas : Type 0
  EachHas = (b : Backend) → (s : Shot) × IsShot b m n s

  pub each-has : ShotsExist → HasMeaning m → EachHas
  unfolding ShotsExist
  each-has law h = λ b. law m h.limit h.numbered h.typed b n

  pub shots-for : EachHas → (bs : List Backend) → (ss : List Shot) × AreShots bs m n ss
  shots-for has [] = ([], tt)
  shots-for has (b ∷ bs) = let s = has b in let ss = shots-for has bs in (s.0 ∷ ss.0, (s.1, ss.1))

  are-more : (bs cs : List Backend) (ss ts : List Shot) → AreShots bs m n ss → AreShots cs m n ts → AreShots (bs ++ cs) m n (ss ++ ts)
  are-more [] cs [] ts a b = b
  are-more [] cs (s ∷ ss) ts a b = absurd a
  are-more (x ∷ bs) cs [] ts a b = absurd a
  are-more (x ∷ bs) cs (s ∷ ss) ts a b = (a.0, are-more bs cs ss ts a.1 b)

  all-more : (ss ts : List Shot) → all_returned (ss ++ ts) ≡ (all_returned ss && all_returned ts)
  all-more [] ts = refl
  all-more (s ∷ ss) ts = ap (λ b. returned s.last && b) (all-more ss ts) ∙ and-assoc (returned s.last) (all_returned ss) (all_returned ts)
    where
      and-assoc : (a b c : Bool) → (a && (b && c)) ≡ ((a && b) && c)
      and-assoc true b c = refl
      and-assoc false b c = refl

  module _ (tell : Shot → List (List ℕ)) where
    abbrev pub Lines : List Shot → List (List ℕ)
    Lines ss = flat_map tell ss

    one-line : (s : Shot) → Lines (s ∷ []) ≡ tell s
    one-line s = append-nil (tell s)

    -- ---- one shot

    -- there was no memory for it, and nothing was written
    pub no-memory : EachHas → (b : Backend) (before : Option (List ℕ)) (f g : ℕ) (e : ShotStop) → e ≡ stop.Memory → TellsShots (b ∷ []) m n Lines before before f g (Err e)
    no-memory has b before f g e is =
        let s = has b in
        subst (λ z. TellsShots (b ∷ []) m n Lines before before f g (Err z)) (sym is)
        (record { shots = s.0 ∷ []; are = (s.1, tt); written = nothing-written (Lines (s.0 ∷ [])) before; answer = tt })

    pub shot-stopped : (b : Backend) (s : Shot) (before now : Option (List ℕ)) (f g : ℕ) (e d : ShotStop) → IsShot b m n s → Writes {A = Nothing} (tell s) before now f g (Err e) → d ≡ e
        → TellsShots (b ∷ []) m n Lines before now f g (Err d)
    shot-stopped b s before now f g e d is w same =
        subst (λ z. TellsShots (b ∷ []) m n Lines before now f g (Err z)) (sym same)
        (record { shots = s ∷ []; are = (is, tt); written = subst (λ ls. Writes {A = Bool} ls before now f g (Err e)) (sym (one-line s)) (other-error Nothing Bool (tell s) before now f g e w); answer = tt })

    pub shot-told : (b : Backend) (s : Shot) (before now : Option (List ℕ)) (f g : ℕ) (all : Bool) → IsShot b m n s → Takes before (text_of (tell s)) now → all ≡ returned s.last
        → TellsShots (b ∷ []) m n Lines before now f g (Ok all)
    shot-told b s before now f g all is w e = record {
      shots = s ∷ [];
      are = (is, tt);
      written = subst (λ ls. Takes before (text_of ls) now) (sym (one-line s)) w;
      answer = e ∙ and-true (returned s.last);
    }

    -- ---- one shot after the other

    -- the first of the backends had their shots, which were told, and the rest is to come
    pub record Sofar (bs rest : List Backend) (before now : Option (List ℕ)) (f g : ℕ) (all : Bool) : Type 0 where
      pub done : List Backend
      pub whole : bs ≡ done ++ rest
      pub shots : List Shot
      pub are : AreShots done m n shots
      pub written : Takes before (text_of (Lines shots)) now
      pub later : f ≤ g
      pub answer : all ≡ all_returned shots

    pub sofar-start : (bs : List Backend) (before : Option (List ℕ)) (f : ℕ) → Sofar bs bs before before f f true
    sofar-start bs before f = record { done = []; whole = refl; shots = []; are = tt; written = takes-nothing before; later = omega arith; answer = refl }

    module _ (bs : List Backend) (b : Backend) (rest : List Backend) (before between now : Option (List ℕ)) (f g h : ℕ) (all : Bool) (s : Sofar bs (b ∷ rest) before between f g all) where
      whole-again : bs ≡ (s.done ++ b ∷ []) ++ rest
      whole-again = s.whole ∙ sym (append_assoc s.done (b ∷ []) rest)

      lines-more : (ts : List Shot) → Lines (s.shots ++ ts) ≡ Lines s.shots ++ Lines ts
      lines-more ts = flat_map-append tell s.shots ts

      text-more : (ts : List Shot) → text_of (Lines (s.shots ++ ts)) ≡ text_of (Lines s.shots) ++ text_of (Lines ts)
      text-more ts = ap text_of (lines-more ts) ∙ flat_map-append (λ line. line) (Lines s.shots) (Lines ts)

      pub sofar-step : (one : Bool) → TellsShots (b ∷ []) m n Lines between now g h (Ok one) → g ≤ h → (next : Bool) → next ≡ (all && one) → Sofar bs rest before now f h next
      sofar-step one t le next is = record {
        done = s.done ++ b ∷ [];
        whole = whole-again;
        shots = s.shots ++ t.shots;
        are = are-more s.done (b ∷ []) s.shots t.shots s.are t.are;
        written = subst (λ text. Takes before text now) (sym (text-more t.shots)) (takes-more before between now (text_of (Lines s.shots)) (text_of (Lines t.shots)) s.written t.written);
        later = let l = s.later in omega (arith, l, le);
        answer = is ∙ ap (λ z. z && one) s.answer ∙ ap (λ z. all_returned s.shots && z) t.answer ∙ sym (all-more s.shots t.shots);
      }

      pub sofar-stop : EachHas → (e d : ShotStop) → TellsShots (b ∷ []) m n Lines between now g h (Err e) → d ≡ e → TellsShots bs m n Lines before now f h (Err d)
      sofar-stop has e d t same =
          let others = shots-for has rest in
          let shots = (s.shots ++ t.shots) ++ others.0 in
          let w : Writes {A = Nothing} (Lines t.shots) between now g h (Err e) = other-error Bool Nothing (Lines t.shots) between now g h e t.written in
          let more : Writes {A = Nothing} (Lines s.shots ++ Lines t.shots) before now f h (Err e) = writes-follow {A = Nothing} (Lines s.shots) (Lines t.shots) before between now f g h (Err e) s.written s.later w in
          let all-lines : Lines shots ≡ (Lines s.shots ++ Lines t.shots) ++ Lines others.0 = flat_map-append tell (s.shots ++ t.shots) others.0 ∙ ap (λ l. l ++ Lines others.0) (lines-more t.shots) in
          subst (λ z. TellsShots bs m n Lines before now f h (Err z)) (sym same)
          (record {
            shots = shots;
            are = subst (λ z. AreShots z m n shots) (sym whole-again) (are-more (s.done ++ b ∷ []) rest (s.shots ++ t.shots) others.0 (are-more s.done (b ∷ []) s.shots t.shots s.are t.are) others.1);
            written = subst (λ ls. Writes {A = Bool} ls before now f h (Err e)) (sym all-lines) (other-error Nothing Bool ((Lines s.shots ++ Lines t.shots) ++ Lines others.0) before now f h e (writes-stays (Lines s.shots ++ Lines t.shots) (Lines others.0) before now f h e more));
            answer = tt;
          })

    pub sofar-end : (bs : List Backend) (before now : Option (List ℕ)) (f g : ℕ) (all : Bool) → Sofar bs [] before now f g all → TellsShots bs m n Lines before now f g (Ok all)
    sofar-end bs before now f g all s = record {
      shots = s.shots;
      are = subst (λ z. AreShots z m n s.shots) (sym (s.whole ∙ append-nil s.done)) s.are;
      written = s.written;
      answer = s.answer;
    }

    -- ---- behind the lines of the schema

    pub behind-head : (head : List (List ℕ)) (bs : List Backend) (before between now : Option (List ℕ)) (f g h : ℕ) (r : Result Bool ShotStop) → Takes before (text_of head) between → f ≤ g
        → TellsShots bs m n Lines between now g h r → TellsShots bs m n (λ ss. head ++ Lines ss) before now f h r
    behind-head head bs before between now f g h r t le s = record {
      shots = s.shots;
      are = s.are;
      written = writes-follow head (Lines s.shots) before between now f g h r t le s.written;
      answer = s.answer;
    }

    pub head-stopped : EachHas → (head : List (List ℕ)) (bs : List Backend) (before now : Option (List ℕ)) (f g : ℕ) (d : ShotStop) → WritesPart (text_of head) before now → Rose f g → d ≡ stop.Write
        → TellsShots bs m n (λ ss. head ++ Lines ss) before now f g (Err d)
    head-stopped has head bs before now f g d p rose is =
        let all = shots-for has bs in
        subst (λ z. TellsShots bs m n (λ ss. head ++ Lines ss) before now f g (Err z)) (sym is)
        (record {
          shots = all.0;
          are = all.1;
          written = other-error Nothing Bool (head ++ Lines all.0) before now f g stop.Write (writes-stays head (Lines all.0) before now f g stop.Write (p, rose));
          answer = tt;
        })
