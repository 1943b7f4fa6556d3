-- The reader that a grammar gives, by one token of look-ahead, as a function on lists.
use Rattle.std.specs.Prelude.{ℕ, zero, suc, ◌-◌, Bool, true, false, ◌||◌, if◌then◌else◌, Option, Some, None, Ok, Err, List, [], ◌∷◌, length}
use Rattle.grammar.specs.declared.fault.Fault.{Fault}
use Rattle.grammar.specs.declared.fault.Fault.TheVariants.{Unexpected, Broken}
use Rattle.grammar.specs.Grammar.{Alphabet, Grammar, nothing, tok, seq, alt, opt, rep, as_tree, dep, grow, marked, is_in, begins_with}
use Rattle.grammar.specs.Language.{Answer}
use Rattle.grammar.specs.LookAhead.{firsts, marks}

-- Got x b ts: x is read and ts is left, and b says that a marked part might have begun before ts.
-- Stop f ts: ts begins with the token of the fault f, or is empty where the end is the fault.
pub data Out (L : Alphabet) (A : Type 0) : Type 0 where
  Got : A → Bool → List L.Token → Out L A
  Stop : Fault L.Rule → List L.Token → Out L A

-- a reader: before it, whether a marked part might have begun here, and the tokens that are left
abbrev pub Read : Alphabet → Type 0 → Type 0
Read L A = Bool → List L.Token → Out L A

abbrev pub then_do : {L : Alphabet} {A B : Type 0} → Out L A → (A → Read L B) → Out L B
then_do (Got x b ts) k = k x b ts
then_do (Stop w ts) k = Stop w ts

abbrev pub kept : {L : Alphabet} → Option L.Rule → L.Token → List L.Token → Out L L.Token
kept None t ts = Got t false ts
kept (Some r) t ts = Stop (Broken r) (t ∷ ts)

abbrev pub read_one : (L : Alphabet) → List L.Kind → (L.Token → Option L.Rule) → Read L L.Token
read_one L s p b [] = Stop (Unexpected b) []
read_one L s p b (t ∷ ts) = if is_in L t s then kept (p t) t ts else Stop (Unexpected b) (t ∷ ts)

abbrev pub read_both : {L : Alphabet} {A B : Type 0} → Read L A → (A → Read L B) → Read L (A × B)
read_both a b c ts = then_do (a c ts) (λ x d us. then_do (b x d us) (λ y e vs. Got (x, y) e vs))

-- a where the next token begins a, else nothing
abbrev pub read_maybe : {L : Alphabet} {A : Type 0} → List L.Kind → Bool → Read L A → Read L (Option A)
read_maybe {L} s y a c ts = if begins_with L s ts then then_do (a c ts) (λ x d us. Got (Some x) d us) else Got None (c || y) ts

-- at most n times
abbrev pub read_many : {L : Alphabet} {A : Type 0} → List L.Kind → Bool → Read L A → ℕ → Read L (List A)
read_many s y a zero c ts = Got [] (c || y) ts
read_many {L} s y a (suc n) c ts = if begins_with L s ts then then_do (a c ts) (λ x d us. then_do (read_many s y a n d us) (λ xs e vs. Got (x ∷ xs) e vs)) else Got [] (c || y) ts

-- at most n parts from the tree x on
abbrev pub read_growth : {L : Alphabet} {A : Type 0} → (A → List L.Kind) → (A → Bool) → (A → Read L A) → ℕ → A → Read L A
read_growth s y a zero x c ts = Got x (c || y x) ts
read_growth {L} s y a (suc n) x c ts = if begins_with L (s x) ts then then_do (a x c ts) (λ z d us. read_growth s y a n z d us) else Got x (c || y x) ts

abbrev pub read : {L : Alphabet} {A : Type 0} → Grammar L A → Read L A
read (nothing x) = λ c ts. Got x c ts
read {L} (tok s p) = read_one L s p
read (seq a b) = read_both (read a) (λ _. read b)
read {L} (alt a b) = λ c ts. if begins_with L (firsts a) ts then read a c ts else read b (c || marks a) ts
read (opt a) = read_maybe (firsts a) (marks a) (read a)
read (rep a) = λ c ts. read_many (firsts a) (marks a) (read a) (length ts) c ts
read (as_tree f a) = λ c ts. then_do (read a c ts) (λ x d us. Got (f x) d us)
read (dep a s f) = read_both (read a) (λ x. read (f x))
read (grow x s f) = λ c ts. read_growth (λ y. firsts (f y)) (λ y. marks (f y)) (λ y. read (f y)) (length ts) x c ts
read (marked a) = λ c ts. read a true ts

-- what a reading of ts answers
abbrev pub answered : {L : Alphabet} {A : Type 0} → List L.Token → Out L A → Answer L A
answered ts (Got x d []) = Ok x
answered ts (Got x d (t ∷ v)) = Err (Unexpected d, length ts - length (t ∷ v))
answered ts (Stop w rest) = Err (w, length ts - length rest)

-- What one token of look-ahead answers to ts.
abbrev pub answer : {L : Alphabet} {A : Type 0} → Grammar L A → List L.Token → Answer L A
answer g ts = answered ts (read g false ts)
