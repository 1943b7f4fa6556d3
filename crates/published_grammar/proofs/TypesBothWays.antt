-- Types: the production that contains itself on its left, and parts that grow one behind the other.
use Rattle.std.proofs.Common.{◌≡◌, ℕ, zero, suc, ◌+◌, ◌-◌, ◌<◌, ◌≤◌, true, None, List, [], ◌∷◌, ◌++◌, ◌⊎◌, inl, inr, refl, sym, ap, ◌∙◌, subst, append_assoc, arith}
use Rattle.std.proofs.lemmas.Bool.Decides.{nat_tests}
use Rattle.std.proofs.lemmas.List.{append-nil}
use Rattle.grammar.specs.Grammar.{Grammar, seq, as_tree, dep, marked, has, any, second}
use Rattle.grammar.specs.Language.{Derives, Ending, Front, steps, last_of, mark_front}
use Rattle.ir_values.specs.declared.ty.Ty.TheVariants as ty
use Rattle.ir_tokens.specs.declared.kind.Kind.{Kind}
use Rattle.ir_tokens.specs.declared.kind.Kind.TheVariants as kind
use Rattle.ir_tokens.specs.declared.token.Token.{Token}
use Rattle.ir_tokens.specs.code.Kinds.{code, told_apart}
use Rattle.ir_tokens.specs.Tokens.{tokens}
use Rattle.ir_grammar.specs.declared.tree.TypeSyntax.{TypeSyntax}
use Rattle.ir_grammar.specs.Forms.{one, one_of}
use Rattle.ir_grammar.specs.Types.{width_of, integer_types, typed, word_type, plain_type, byte_or_text, byte_type, qubit_type, result_type, void_type, base_type, return_type_of, value_type_of}
use Rattle.published_grammar.specs.Types.{integer, double, text, simple_type, or_void, type_of}
use Rattle.published_grammar.proofs.Algebra.{Within, Same, within_itself, within_through, either, on_left, on_right, within_alt, within_as_tree, within_marked, within_dep}
use Rattle.published_grammar.proofs.Factoring.{within_alike, trees_joined, trees_apart, within_kinds, kinds_apart, within_mark, mark_again, mark_of_tree, without_last}

-- the kind of a token of one kind
pub kind_is : (k : Kind) (t : Token) → has tokens (k ∷ []) t.kind ≡ true → t.kind ≡ k
kind_is k t e = let i : code k ≡ code t.kind = grind (arith, nat_tests) in sym (told_apart k t.kind i)

-- Types other than function pointers.

abbrev plain_words : List Kind
plain_words = kind.I1 ∷ kind.I16 ∷ kind.I32 ∷ kind.I64 ∷ []

regrouped : (k : Kind) → has tokens integer_types k ≡ true → has tokens (plain_words ++ kind.I8 ∷ []) k ≡ true
regrouped kind.I1 e = e
regrouped k e = e

plain_is_integer : (k : Kind) → has tokens plain_words k ≡ true → has tokens integer_types k ≡ true
plain_is_integer kind.I8 e = refl
plain_is_integer k e = e

byte_is_integer : (k : Kind) → has tokens (kind.I8 ∷ []) k ≡ true → has tokens integer_types k ≡ true
byte_is_integer kind.I1 e = refl
byte_is_integer kind.I16 e = refl
byte_is_integer kind.I32 e = refl
byte_is_integer kind.I64 e = refl
byte_is_integer k e = e

plain_is_word : (k : Kind) → has tokens plain_words k ≡ true → has tokens (plain_words ++ kind.DoubleType ∷ []) k ≡ true
plain_is_word kind.DoubleType e = refl
plain_is_word k e = e

double_is_word : (k : Kind) → has tokens (kind.DoubleType ∷ []) k ≡ true → has tokens (plain_words ++ kind.DoubleType ∷ []) k ≡ true
double_is_word kind.I1 e = refl
double_is_word kind.I16 e = refl
double_is_word kind.I32 e = refl
double_is_word kind.I64 e = refl
double_is_word k e = e

plain_width : (k : Kind) → has tokens plain_words k ≡ true → ty.Int (width_of k) ≡ word_type k
plain_width kind.DoubleType e = absurd (cc)
plain_width k e = refl

abbrev integer_typed : Token → TypeSyntax
integer_typed t = typed (ty.Int (width_of t.kind)) t

abbrev word_typed : Token → TypeSyntax
word_typed t = typed (word_type t.kind) t

plain_alike : (t : Token) → has tokens plain_words t.kind ≡ true → integer_typed t ≡ word_typed t
plain_alike t e = ap (λ x. typed x t) (plain_width t.kind e)

byte_alike : (t : Token) → has tokens (kind.I8 ∷ []) t.kind ≡ true → integer_typed t ≡ typed (byte_or_text None) t
byte_alike t e = ap (λ k. typed (ty.Int (width_of k)) t) (kind_is kind.I8 t e)

double_alike : (t : Token) → has tokens (kind.DoubleType ∷ []) t.kind ≡ true → typed ty.Double t ≡ word_typed t
double_alike t e = ap (λ k. typed (word_type k) t) (sym (kind_is kind.DoubleType t e))

integer_there : Within integer (marked base_type)
unfolding integer base_type plain_type byte_type
integer_there = within_through (mark_of_tree integer_typed (one_of integer_types)) (within_marked words)
  where
    words : Within (as_tree integer_typed (one_of integer_types)) base_type
    words =
        within_through (within_as_tree integer_typed (within_through (within_kinds integer_types (plain_words ++ kind.I8 ∷ []) any regrouped) (kinds_apart plain_words (kind.I8 ∷ []) any)))
        (within_through (trees_apart integer_typed (one_of plain_words) (one_of (kind.I8 ∷ []))).there
        (either
        (on_left (within_alike integer_typed word_typed (λ ts t w. plain_alike t w.1) (within_kinds plain_words (plain_words ++ kind.DoubleType ∷ []) any plain_is_word)))
        (on_right (on_left (within_through
        (within_alike integer_typed (typed (byte_or_text None)) (λ ts t w. byte_alike t w.1) (within_itself (one kind.I8)))
        (within_through (on_left (within_itself (as_tree (typed (byte_or_text None)) (one kind.I8)))) (without_last (λ (t, star). typed (byte_or_text star) t) (one kind.I8) (one kind.Star)).back))))))

double_there : Within double base_type
unfolding double base_type plain_type
double_there = on_left (within_alike (typed ty.Double) word_typed (λ ts t w. double_alike t w.1) (within_kinds (kind.DoubleType ∷ []) (plain_words ++ kind.DoubleType ∷ []) any double_is_word))

text_there : Within text base_type
unfolding text base_type byte_type
text_there =
    let e = without_last (λ (t, star). typed (byte_or_text star) t) (one kind.I8) (one kind.Star) in
    on_right (on_left (within_through (trees_joined (typed ty.Text) (λ p. p.0) (seq (one kind.I8) (one kind.Star))).there (within_through (on_right (within_itself (as_tree (λ p. typed ty.Text p.0) (seq (one kind.I8) (one kind.Star))))) e.back)))

pub simple_there : Within simple_type (marked base_type)
unfolding simple_type base_type
simple_there =
    either integer_there (either (within_through double_there (within_mark base_type)) (either
    (within_through (on_right (on_right (on_left (within_itself qubit_type)))) (within_mark base_type))
    (either (within_through (on_right (on_right (on_right (within_itself result_type)))) (within_mark base_type)) (within_through text_there (within_mark base_type)))))

plain_back : Within plain_type simple_type
unfolding plain_type simple_type integer double
plain_back =
    within_through (within_as_tree word_typed (kinds_apart plain_words (kind.DoubleType ∷ []) any))
    (within_through (trees_apart word_typed (one_of plain_words) (one_of (kind.DoubleType ∷ []))).there
    (either
    (on_left (within_alike word_typed integer_typed (λ ts t w. sym (plain_alike t w.1)) (within_through (within_kinds plain_words integer_types any plain_is_integer) (within_mark (one_of integer_types)))))
    (on_right (on_left (within_alike word_typed (typed ty.Double) (λ ts t w. sym (double_alike t w.1)) (within_itself (one kind.DoubleType)))))))

byte_back : Within byte_type simple_type
unfolding byte_type simple_type integer text
byte_back =
    within_through (without_last (λ (t, star). typed (byte_or_text star) t) (one kind.I8) (one kind.Star)).there
    (either
    (on_left (within_alike (typed (byte_or_text None)) integer_typed (λ ts t w. sym (byte_alike t w.1)) (within_through (within_kinds (kind.I8 ∷ []) integer_types any byte_is_integer) (within_mark (one_of integer_types)))))
    (on_right (on_right (on_right (on_right (trees_joined (typed ty.Text) (λ p. p.0) (seq (one kind.I8) (one kind.Star))).back)))))

pub simple_back : Within base_type simple_type
unfolding base_type simple_type
simple_back = either plain_back (either byte_back (either (on_right (on_right (on_left (within_itself qubit_type)))) (on_right (on_right (on_right (on_left (within_itself result_type)))))))

-- Function pointer types.

module _ (S : TypeSyntax → Grammar tokens TypeSyntax) where
  pub more : (n : ℕ) → Within (type_of S n) (type_of S (suc n))
  unfolding type_of
  more zero = within_marked (on_left (within_itself simple_type))
  more (suc n) = within_marked (within_alt (within_itself simple_type) (within_as_tree second (within_dep [] [] (within_marked (within_alt (more n) (within_itself void_type))) (λ x. within_itself (S x)))))

  more_by : (d n k : ℕ) → k ≡ d + n → Within (type_of S n) (type_of S k)
  more_by zero n k e = let i : n ≡ k = omega arith in subst (λ j. Within (type_of S n) (type_of S j)) i (within_itself (type_of S n))
  more_by (suc d) n zero e = absurd (omega arith)
  more_by (suc d) n (suc k) e = within_through (more_by d n k (omega arith)) (more k)

  more_to : (n k : ℕ) → n ≤ k → Within (type_of S n) (type_of S k)
  more_to n k h = more_by (k - n) n k (omega arith)

  -- one more part behind a type, and behind "void"
  one_more : (n : ℕ) (us vs : List Token) (x y : TypeSyntax) → Derives (type_of S n) us x → Derives (S x) vs y → Derives (type_of S (suc n)) (us ++ vs) y
  unfolding type_of
  one_more n us vs x y w v = inr ((x, y), (us, vs, refl, inl w, v), refl)

  first_more : (n : ℕ) (us vs : List Token) (x y : TypeSyntax) → Derives void_type us x → Derives (S x) vs y → Derives (type_of S (suc n)) (us ++ vs) y
  unfolding type_of
  first_more n us vs x y w v = inr ((x, y), (us, vs, refl, inr w, v), refl)

  steps_more : (x : TypeSyntax) (ys : List TypeSyntax) (us vs : List Token) (y : TypeSyntax) → steps (λ z. Derives (S z)) x ys us → Derives (S (last_of x ys)) vs y → steps (λ z. Derives (S z)) x (ys ++ y ∷ []) (us ++ vs)
  steps_more x [] us vs y e v = (vs, [], ap (λ l. l ++ vs) e ∙ sym (append-nil vs), v, refl)
  steps_more x (z ∷ zs) us vs y (ps, qs, e, w, r) v = (ps, qs ++ vs, ap (λ l. l ++ vs) e ∙ append_assoc ps qs vs, w, steps_more z zs qs vs y r v)

  last_more : (x : TypeSyntax) (ys : List TypeSyntax) (y : TypeSyntax) → last_of x (ys ++ y ∷ []) ≡ y
  last_more x [] y = refl
  last_more x (z ∷ zs) y = last_more z zs y

  -- from the production to growing parts

  grown_more : (ts us vs : List Token) (x y : TypeSyntax) → ts ≡ us ++ vs → Derives (value_type_of S) us x → Derives (S x) vs y → Derives (value_type_of S) ts y
  grown_more ts us vs x y e (p, (qs, rs, i, d, (ys, j, r)), k) v =
      ((p.0, y), (qs, rs ++ vs, e ∙ ap (λ l. l ++ vs) i ∙ append_assoc qs rs vs, d, (ys ++ y ∷ [], sym (last_more p.0 ys y), steps_more p.0 ys rs vs y r (subst (λ z. Derives (S z) vs y) (k ∙ j) v))), refl)

  grown_front : (m : Ending tokens) (ts us vs : List Token) (x : TypeSyntax) → ts ≡ us ++ vs → Derives (value_type_of S) us x → Front (S x) m vs → Front (value_type_of S) m ts
  grown_front m ts us vs x e (p, (qs, rs, i, d, (ys, j, r)), k) v =
      inr (inr (p.0, qs, rs ++ vs, e ∙ ap (λ l. l ++ vs) i ∙ append_assoc qs rs vs, d, (ys, rs, vs, refl, r, subst (λ z. Front (S z) m vs) (k ∙ j) v)))

  simple_grown : (ts : List Token) (x : TypeSyntax) → Derives simple_type ts x → Derives (value_type_of S) ts x
  simple_grown ts x w = ((x, x), (ts, [], sym (append-nil ts), inl (simple_there.sentences ts x w), ([], refl, refl)), refl)

  simple_front : (m : Ending tokens) (ts : List Token) → mark_front m ts ⊎ Front base_type m ts → Front (value_type_of S) m ts
  simple_front m ts (inl w) = inl w
  simple_front m ts (inr w) = inr (inl (inl w))

  type_grown : (n : ℕ) (ts : List Token) (x : TypeSyntax) → Derives (type_of S n) ts x → Derives (value_type_of S) ts x
  unfolding type_of
  type_grown zero ts x w = simple_grown ts x w
  type_grown (suc n) ts x (inl w) = simple_grown ts x w
  type_grown (suc n) ts x (inr (p, (us, vs, e, inl w, v), i)) = subst (Derives (value_type_of S) ts) (sym i) (grown_more ts us vs p.0 p.1 e (type_grown n us p.0 w) v)
  type_grown (suc n) ts x (inr (p, (us, vs, e, inr w, v), i)) = ((x, x), (ts, [], sym (append-nil ts), inr (p, (us, vs, e, w, v), i), ([], refl, refl)), refl)

  type_front : (n : ℕ) (m : Ending tokens) (ts : List Token) → Front (type_of S n) m ts → Front (value_type_of S) m ts
  unfolding type_of
  type_front zero m ts (inl w) = inl w
  type_front zero m ts (inr w) = simple_front m ts (simple_there.fronts m ts w)
  type_front (suc n) m ts (inl w) = inl w
  type_front (suc n) m ts (inr (inl w)) = simple_front m ts (simple_there.fronts m ts w)
  type_front (suc n) m ts (inr (inr (inl (inl w)))) = inl w
  type_front (suc n) m ts (inr (inr (inl (inr (inl w))))) = type_front n m ts w
  type_front (suc n) m ts (inr (inr (inl (inr (inr w))))) = inr (inl (inr (inl w)))
  type_front (suc n) m ts (inr (inr (inr (x, us, vs, e, inl w, v)))) = grown_front m ts us vs x e (type_grown n us x w) v
  type_front (suc n) m ts (inr (inr (inr (x, us, vs, e, inr w, v)))) = inr (inl (inr (inr (x, us, vs, e, w, v))))

  pub type_there : (n : ℕ) → Within (type_of S n) (value_type_of S)
  type_there n = record { sentences = type_grown n; fronts = type_front n }

module _ (S : TypeSyntax → Grammar tokens TypeSyntax) (left : ℕ) (bound : (x : TypeSyntax) (ts : List Token) (y : TypeSyntax) → Derives (S x) ts y → (x.nesting < left) × (x.nesting < y.nesting)) where
  -- a type with so few parts one behind the other as the side rule lets pass
  abbrev Climbed : List Token → TypeSyntax → Type 0
  Climbed ts x = (n : ℕ) × Derives (type_of S n) ts x × (n ≤ x.nesting) × (n ≤ left)

  step_up : (us vs : List Token) (x y : TypeSyntax) → Climbed us x → Derives (S x) vs y → Climbed (us ++ vs) y
  step_up us vs x y (n, w, a, b) v = let c = bound x vs y v in (suc n, one_more S n us vs x y w v, omega (arith, c.0, c.1), omega (arith, c.0))

  first_up : (us vs : List Token) (x y : TypeSyntax) → Derives void_type us x → Derives (S x) vs y → Climbed (us ++ vs) y
  first_up us vs x y w v = let c = bound x vs y v in (1, first_more S 0 us vs x y w v, omega (arith, c.1), omega (arith, c.0))

  climb : (ts us vs : List Token) (x : TypeSyntax) (ys : List TypeSyntax) → ts ≡ us ++ vs → Climbed us x → steps (λ y. Derives (S y)) x ys vs → Climbed ts (last_of x ys)
  climb ts us vs x [] e w r = subst (λ l. Climbed l x) (sym (e ∙ ap (λ l. us ++ l) r ∙ append-nil us)) w
  climb ts us vs x (y ∷ ys) e w (ps, qs, i, v, r) = climb ts (us ++ ps) qs y ys (e ∙ ap (λ l. us ++ l) i ∙ sym (append_assoc us ps qs)) (step_up us ps x y w v) r

  base_climbed : (us : List Token) (x : TypeSyntax) → Derives base_type us x → Climbed us x
  unfolding type_of
  base_climbed us x w = (0, simple_back.sentences us x w, omega arith, omega arith)

  start : (us : List Token) (x : TypeSyntax) → Derives base_type us x ⊎ Derives (as_tree second (dep void_type [] S)) us x → Climbed us x
  start us x (inl w) = base_climbed us x w
  start us x (inr (p, (ps, qs, e, w, v), i)) = subst (λ l. Climbed l x) (sym e) (subst (Climbed (ps ++ qs)) (sym i) (first_up ps qs p.0 p.1 w v))

  reached : (ts : List Token) (x : TypeSyntax) → Climbed ts x → Derives (type_of S (suc left)) ts x
  reached ts x (n, w, a, b) = (more_to S n (suc left) (omega (arith, b))).sentences ts x w

  reached_front : (m : Ending tokens) (ts us vs : List Token) (x : TypeSyntax) → ts ≡ us ++ vs → Climbed us x → Front (S x) m vs → Front (type_of S (suc left)) m ts
  unfolding type_of
  reached_front m ts us vs x e (n, w, a, b) v = inr (inr (inr (x, us, vs, e, inl ((more_to S n left b).sentences us x w), v)))

  void_front : (m : Ending tokens) (ts us vs : List Token) (x : TypeSyntax) → ts ≡ us ++ vs → Derives void_type us x → Front (S x) m vs → Front (type_of S (suc left)) m ts
  unfolding type_of
  void_front m ts us vs x e w v = inr (inr (inr (x, us, vs, e, inr w, v)))

  base_front : (m : Ending tokens) (ts : List Token) → Front base_type m ts → Front (type_of S (suc left)) m ts
  unfolding type_of
  base_front m ts w = inr (inl (simple_back.fronts m ts w))

  begun_front : (m : Ending tokens) (ts : List Token) → Front void_type m ts → Front (type_of S (suc left)) m ts
  unfolding type_of
  begun_front m ts w = inr (inr (inl (inr (inr w))))

  value_sentence : (ts : List Token) (x : TypeSyntax) → Derives (value_type_of S) ts x → Derives (type_of S (suc left)) ts x
  value_sentence ts x (p, (us, vs, e, d, (ys, i, r)), j) = reached ts x (subst (Climbed ts) (sym (j ∙ i)) (climb ts us vs p.0 ys e (start us p.0 d) r))

  marks_type : (m : Ending tokens) (ts : List Token) → mark_front m ts → Front (type_of S (suc left)) m ts
  unfolding type_of
  marks_type m ts w = inl w

  value_front : (m : Ending tokens) (ts : List Token) → Front (value_type_of S) m ts → Front (type_of S (suc left)) m ts
  value_front m ts (inl w) = marks_type m ts w
  value_front m ts (inr (inl (inl w))) = base_front m ts w
  value_front m ts (inr (inl (inr (inl w)))) = begun_front m ts w
  value_front m ts (inr (inl (inr (inr (x, us, vs, e, w, v))))) = void_front m ts us vs x e w v
  value_front m ts (inr (inr (x, us, vs, e, d, (ys, ps, qs, i, r, v)))) =
      reached_front m ts (us ++ ps) qs (last_of x ys) (e ∙ ap (λ l. us ++ l) i ∙ sym (append_assoc us ps qs)) (climb (us ++ ps) us ps x ys refl (start us x d) r) v

  pub value_type_same : Same (type_of S (suc left)) (value_type_of S)
  value_type_same = record { there = type_there S (suc left); back = record { sentences = value_sentence; fronts = value_front } }

  -- the return types

  abbrev Return : List Token → TypeSyntax → Type 0
  Return = Derives (or_void (type_of S (suc left)))

  from_void : (ts us vs : List Token) (x : TypeSyntax) (ys : List TypeSyntax) → ts ≡ us ++ vs → Derives void_type us x → steps (λ y. Derives (S y)) x ys vs → Return ts (last_of x ys)
  from_void ts us vs x [] e w r = inr (subst (λ l. Derives void_type l x) (sym (e ∙ ap (λ l. us ++ l) r ∙ append-nil us)) w)
  from_void ts us vs x (y ∷ ys) e w (ps, qs, i, v, r) =
      inl (reached ts (last_of y ys) (climb ts (us ++ ps) qs y ys (e ∙ ap (λ l. us ++ l) i ∙ sym (append_assoc us ps qs)) (first_up us ps x y w v) r))

  from_either : (ts us vs : List Token) (x : TypeSyntax) (ys : List TypeSyntax) → ts ≡ us ++ vs → Derives base_type us x ⊎ Derives void_type us x → steps (λ y. Derives (S y)) x ys vs → Return ts (last_of x ys)
  from_either ts us vs x ys e (inl w) r = inl (reached ts (last_of x ys) (climb ts us vs x ys e (base_climbed us x w) r))
  from_either ts us vs x ys e (inr w) r = from_void ts us vs x ys e w r

  return_sentence : (ts : List Token) (x : TypeSyntax) → Derives (return_type_of S) ts x → Return ts x
  return_sentence ts x (p, (us, vs, e, d, (ys, i, r)), j) = subst (Return ts) (sym (j ∙ i)) (from_either ts us vs p.0 ys e d r)

  void_steps_front : (m : Ending tokens) (ts us ps qs : List Token) (x : TypeSyntax) (ys : List TypeSyntax) → ts ≡ us ++ (ps ++ qs) → Derives void_type us x → steps (λ y. Derives (S y)) x ys ps → Front (S (last_of x ys)) m qs → Front (type_of S (suc left)) m ts
  void_steps_front m ts us ps qs x [] e w r v = void_front m ts us qs x (e ∙ ap (λ l. us ++ (l ++ qs)) r) w v
  void_steps_front m ts us ps qs x (y ∷ ys) e w (gs, bs, i, u, r) v =
      reached_front m ts (us ++ ps) qs (last_of y ys) (e ∙ sym (append_assoc us ps qs)) (climb (us ++ ps) (us ++ gs) bs y ys (ap (λ l. us ++ l) i ∙ sym (append_assoc us gs bs)) (first_up us gs x y w u) r) v

  return_front : (m : Ending tokens) (ts : List Token) → Front (return_type_of S) m ts → Front (or_void (type_of S (suc left))) m ts
  return_front m ts (inl w) = inl w
  return_front m ts (inr (inl (inl w))) = inr (inl (base_front m ts w))
  return_front m ts (inr (inl (inr w))) = inr (inr w)
  return_front m ts (inr (inr (x, us, vs, e, inl w, (ys, ps, qs, i, r, v)))) =
      inr (inl (reached_front m ts (us ++ ps) qs (last_of x ys) (e ∙ ap (λ l. us ++ l) i ∙ sym (append_assoc us ps qs)) (climb (us ++ ps) us ps x ys refl (base_climbed us x w) r) v))
  return_front m ts (inr (inr (x, us, vs, e, inr w, (ys, ps, qs, i, r, v)))) =
      inr (inl (void_steps_front m ts us ps qs x ys (e ∙ ap (λ l. us ++ l) i) w r v))

  -- a type with its "void" as the first of the types that it grows from
  value_return : (ts : List Token) (x : TypeSyntax) → Derives (value_type_of S) ts x → Derives (return_type_of S) ts x
  value_return ts x (p, (us, vs, e, inl w, r), j) = (p, (us, vs, e, inl w, r), j)
  value_return ts x (p, (us, vs, e, inr (q, (gs, bs, i, w, v), k), (ys, l, r)), j) =
      ((q.0, p.1), (gs, bs ++ vs, e ∙ ap (λ z. z ++ vs) i ∙ append_assoc gs bs vs, inr w, (p.0 ∷ ys, l, (bs, vs, refl, subst (Derives (S q.0) bs) (sym k) v, r))), j)

  value_return_front : (m : Ending tokens) (ts : List Token) → Front (value_type_of S) m ts → Front (return_type_of S) m ts
  value_return_front m ts (inl w) = inl w
  value_return_front m ts (inr (inl (inl w))) = inr (inl (inl w))
  value_return_front m ts (inr (inl (inr (inl w)))) = inr (inl (inr w))
  value_return_front m ts (inr (inl (inr (inr (x, us, vs, e, w, v))))) = inr (inr (x, us, vs, e, inr w, ([], [], vs, refl, refl, v)))
  value_return_front m ts (inr (inr (x, us, vs, e, inl w, g))) = inr (inr (x, us, vs, e, inl w, g))
  value_return_front m ts (inr (inr (x, us, vs, e, inr (q, (gs, bs, i, w, v), k), (ys, ps, qs, j, r, u)))) =
      inr (inr (q.0, gs, bs ++ vs, e ∙ ap (λ z. z ++ vs) i ∙ append_assoc gs bs vs, inr w, (x ∷ ys, bs ++ ps, qs, ap (λ z. bs ++ z) j ∙ sym (append_assoc bs ps qs), (bs, ps, refl, subst (Derives (S q.0) bs) (sym k) v, r), u)))

  void_return : Within void_type (return_type_of S)
  void_return = record { sentences = λ ts x w. ((x, x), (ts, [], sym (append-nil ts), inr w, ([], refl, refl)), refl); fronts = λ m ts w. inr (inl (inr w)) }

  pub return_type_same : Same (or_void (type_of S (suc left))) (return_type_of S)
  return_type_same = record {
    there = mark_again (either (within_through (type_there S (suc left)) (record { sentences = value_return; fronts = value_return_front })) void_return);
    back = record { sentences = return_sentence; fronts = return_front };
  }
