-- The class of a declared function tells its types.
use Rattle.std.proofs.Common.{◌≡◌, refl, ℕ, ◌+◌, ◌==◌, Bool, true, false, ◌&&◌, not, cond, None, Some, List, [], ◌∷◌, ◌++◌, flat_map, fold, count_by, option_map, find, sym, ◌∙◌, subst}
use Rattle.std.proofs.lemmas.Bool.{and_parts}
use Rattle.std.proofs.lemmas.List.Elements.{All-cons, All-head, All-nil, All-tail}
use Rattle.std.specs.Cmp.{unsigned_Decides}
use Rattle.std.specs.List.{All, list_all, list_any}
use Rattle.ir_values.specs.declared.int.Width.TheVariants.{W1, W32, W64}
use Rattle.ir_values.specs.declared.sig.TyWord.{TyWord}
use Rattle.ir_values.specs.declared.sig.TyWord.TheVariants as word
use Rattle.ir_values.specs.declared.ty.Ty.{Ty}
use Rattle.ir_values.specs.declared.ty.Ty.TheVariants as ty
use Rattle.ir_values.specs.declared.class.Class.{Class}
use Rattle.ir_values.specs.declared.class.Class.TheVariants as class
use Rattle.ir_values.specs.Calls.{Row, gives, rows, same_text, same_words, is_result, is_operand, class_of, class_of_words, class_of_unknown}
use Rattle.ir_values.specs.ClassTypes.{is_result_type, is_operand_type, IsInstruction, HasTypes}
use Rattle.ir_values.specs.Types.{IsTy, words_of, signature}
use Rattle.ir_values.proofs.TypeLemmas.{signature-tells}
use Rattle.ir_values.proofs.WordLemmas.{same_words_decides}

-- ---- by words

abbrev instruction_words : ℕ → List TyWord → Bool
instruction_words n (word.Func k ∷ word.Void ∷ params) = list_all is_operand params && (count_by is_result params == n)
instruction_words n ws = false

-- the words of the types that the functions of a class have
abbrev fits_words : Class → List TyWord → Bool
fits_words class.Init ws = same_words ws (gives word.Void (word.Text ∷ []))
fits_words class.Alloc ws = same_words ws (gives word.Qubit [])
fits_words class.Release ws = same_words ws (gives word.Void (word.Qubit ∷ []))
fits_words class.One ws = same_words ws (gives word.Res [])
fits_words class.Zero ws = same_words ws (gives word.Res [])
fits_words class.Equal ws = same_words ws (gives (word.Int W1) (word.Res ∷ word.Res ∷ []))
fits_words class.Count ws = same_words ws (gives word.Void (word.Res ∷ word.Int W32 ∷ []))
fits_words class.Read ws = same_words ws (gives (word.Int W1) (word.Res ∷ []))
fits_words class.Tuple ws = same_words ws (gives word.Void (word.Int W64 ∷ word.Text ∷ []))
fits_words class.Array ws = same_words ws (gives word.Void (word.Int W64 ∷ word.Text ∷ []))
fits_words class.ResRecord ws = same_words ws (gives word.Void (word.Res ∷ word.Text ∷ []))
fits_words class.BoolRecord ws = same_words ws (gives word.Void (word.Int W1 ∷ word.Text ∷ []))
fits_words class.IntRecord ws = same_words ws (gives word.Void (word.Int W64 ∷ word.Text ∷ []))
fits_words class.DoubleRecord ws = same_words ws (gives word.Void (word.Double ∷ word.Text ∷ []))
fits_words class.Returning ws = same_words ws (gives word.Res (word.Qubit ∷ []))
fits_words class.Measure ws = instruction_words 1 ws
fits_words class.Gate ws = instruction_words 0 ws

-- each row of the table has such words
table : list_all (λ r. fits_words r.class r.words) rows ≡ true
table = refl

module _ (name : List ℕ) (words : List TyWord) where
  abbrev is_row : Row → Bool
  is_row r = same_text name r.name && same_words words r.words

  found-at : (r : Row) (rs : List Row) (c : Class) (b : Bool) → is_row r ≡ b → fits_words r.class r.words ≡ true → (option_map (λ (r : Row). r.class) (find is_row rs) ≡ Some c → fits_words c words ≡ true) → option_map (λ (r : Row). r.class) (cond b (Some r) (find is_row rs)) ≡ Some c → fits_words c words ≡ true
  found-at r rs c true t h more e =
      let w = (same_words_decides words r.words).0 (and_parts (same_text name r.name) (same_words words r.words) t).1 in
      let k : r.class ≡ c = cc in
      subst (λ x. fits_words x words ≡ true) k (subst (λ x. fits_words r.class x ≡ true) (sym w) h)
  found-at r rs c false t h more e = more e

  found : (rs : List Row) (c : Class) → list_all (λ r. fits_words r.class r.words) rs ≡ true → option_map (λ (r : Row). r.class) (find is_row rs) ≡ Some c → fits_words c words ≡ true
  found [] c h e = cc
  found (r ∷ rs) c h e =
      let p = and_parts (fits_words r.class r.words) (list_all (λ r. fits_words r.class r.words) rs) h in
      found-at r rs c (is_row r) refl p.0 (found rs c p.1) e

params-fit : (k : ℕ) (params : List TyWord) (c : Class) (a b d : Bool) → list_all is_operand params ≡ a → (count_by is_result params == 0) ≡ b → (count_by is_result params == 1) ≡ d → cond (not a) None (cond b (Some class.Gate) (cond d (Some class.Measure) None)) ≡ Some c → fits_words c (word.Func k ∷ word.Void ∷ params) ≡ true
params-fit k params c false b d ea eb ed e = cc
params-fit k params c true true d ea eb ed e =
    let q : class.Gate ≡ c = cc in subst (λ x. fits_words x (word.Func k ∷ word.Void ∷ params) ≡ true) q (rw (ea, eb) refl)
params-fit k params c true false true ea eb ed e =
    let q : class.Measure ≡ c = cc in subst (λ x. fits_words x (word.Func k ∷ word.Void ∷ params) ≡ true) q (rw (ea, ed) refl)
params-fit k params c true false false ea eb ed e = cc

words-fit : (ws : List TyWord) (c : Class) → class_of_words ws ≡ Some c → fits_words c ws ≡ true
words-fit (word.Func k ∷ word.Void ∷ params) c e = params-fit k params c (list_all is_operand params) (count_by is_result params == 0) (count_by is_result params == 1) refl refl refl e
words-fit ws c e = cc

unknown-fit : (b : Bool) (ws : List TyWord) (c : Class) → cond b (class_of_words ws) None ≡ Some c → fits_words c ws ≡ true
unknown-fit true ws c e = words-fit ws c e
unknown-fit false ws c e = cc

class-fits-at : (name : List ℕ) (ws : List TyWord) (c : Class) (b : Bool) → cond b (option_map (λ (r : Row). r.class) (find (is_row name ws) rows)) (class_of_unknown name ws) ≡ Some c → fits_words c ws ≡ true
class-fits-at name ws c true e = found name ws rows c table e
class-fits-at name ws c false e = unknown-fit _ ws c e

class-fits : (name : List ℕ) (ws : List TyWord) (c : Class) → class_of name ws ≡ Some c → fits_words c ws ≡ true
unfolding class_of
class-fits name ws c e = class-fits-at name ws c (list_any (λ (r : Row). same_text name r.name) rows) e

-- ---- by types

operand-type : (t : Ty) (ts : List Ty) → IsTy t → (list_all is_operand (flat_map words_of ts) ≡ true → list_all is_operand_type ts ≡ true) → list_all is_operand (words_of t ++ flat_map words_of ts) ≡ true → list_all is_operand_type (t ∷ ts) ≡ true
operand-type (ty.Int w) ts i more e = more e
operand-type ty.Double ts i more e = more e
operand-type ty.Qubit ts i more e = more e
operand-type ty.Res ts i more e = more e
operand-type (ty.Func []) ts i more e = cc
operand-type (ty.Func (word.Func k ∷ ws)) ts i more e = cc
operand-type (ty.Func (w ∷ ws)) ts i more e = cc
operand-type t ts i more e = cc

operand-types : (ts : List Ty) → All IsTy ts → list_all is_operand (flat_map words_of ts) ≡ true → list_all is_operand_type ts ≡ true
operand-types [] h e = refl
operand-types (t ∷ ts) h e = operand-type t ts (All-head IsTy t ts h) (operand-types ts (All-tail IsTy t ts h)) e

abbrev counted : {X : Type 0} → (X → Bool) → ℕ → X → ℕ
counted p n x = n + cond (p x) 1 0

-- the results among such types are those among their words
counted-one : (t : Ty) (ts : List Ty) (n : ℕ) → is_operand_type t ≡ true → ((n : ℕ) → fold (counted is_result) n (flat_map words_of ts) ≡ fold (counted is_result_type) n ts) → fold (counted is_result) n (words_of t ++ flat_map words_of ts) ≡ fold (counted is_result_type) n (t ∷ ts)
counted-one (ty.Int w) ts n i more = more (n + 0)
counted-one ty.Double ts n i more = more (n + 0)
counted-one ty.Qubit ts n i more = more (n + 0)
counted-one ty.Res ts n i more = more (n + 1)
counted-one t ts n i more = cc

counted-all : (ts : List Ty) (n : ℕ) → list_all is_operand_type ts ≡ true → fold (counted is_result) n (flat_map words_of ts) ≡ fold (counted is_result_type) n ts
counted-all [] n h = refl
counted-all (t ∷ ts) n h =
    let p = and_parts (is_operand_type t) (list_all is_operand_type ts) h in counted-one t ts n p.0 (λ k. counted-all ts k p.1)

instruction-has : (n : ℕ) (ret : Ty) (ts : List Ty) → IsTy ret → All IsTy ts → instruction_words n (signature ret ts) ≡ true → IsInstruction n ret ts
instruction-has n ty.Void ts h hs e =
    let p = and_parts (list_all is_operand (flat_map words_of ts)) (count_by is_result (flat_map words_of ts) == n) e in
    let operands = operand-types ts hs p.0 in
    (refl, operands, sym (counted-all ts 0 operands) ∙ (unsigned_Decides (count_by is_result (flat_map words_of ts)) n).0 p.1)
instruction-has n (ty.Func []) ts h hs e = cc
instruction-has n (ty.Func (word.Func k ∷ ws)) ts h hs e = cc
instruction-has n (ty.Func (w ∷ ws)) ts h hs e = cc
instruction-has n t ts h hs e = cc

module _ (ret : Ty) (ts : List Ty) (h : IsTy ret) (hs : All IsTy ts) where
  plain : (u : Ty) (us : List Ty) → IsTy u → All IsTy us → same_words (signature ret ts) (signature u us) ≡ true → (ret ≡ u) × (ts ≡ us)
  plain u us i is e = signature-tells ret u ts us h i hs is ((same_words_decides (signature ret ts) (signature u us)).0 e)

  no-type : All IsTy []
  no-type = All-nil IsTy

  one-of : (t : Ty) → IsTy t → All IsTy (t ∷ [])
  one-of t i = All-cons IsTy t [] i no-type

  two-of : (t u : Ty) → IsTy t → IsTy u → All IsTy (t ∷ u ∷ [])
  two-of t u i j = All-cons IsTy t (u ∷ []) i (one-of u j)

  has-types : (c : Class) → fits_words c (signature ret ts) ≡ true → HasTypes c ret ts
  has-types class.Init e = plain ty.Void (ty.Text ∷ []) refl (one-of ty.Text refl) e
  has-types class.Alloc e = plain ty.Qubit [] refl no-type e
  has-types class.Release e = plain ty.Void (ty.Qubit ∷ []) refl (one-of ty.Qubit refl) e
  has-types class.One e = plain ty.Res [] refl no-type e
  has-types class.Zero e = plain ty.Res [] refl no-type e
  has-types class.Equal e = plain (ty.Int W1) (ty.Res ∷ ty.Res ∷ []) refl (two-of ty.Res ty.Res refl refl) e
  has-types class.Count e = plain ty.Void (ty.Res ∷ ty.Int W32 ∷ []) refl (two-of ty.Res (ty.Int W32) refl refl) e
  has-types class.Read e = plain (ty.Int W1) (ty.Res ∷ []) refl (one-of ty.Res refl) e
  has-types class.Tuple e = plain ty.Void (ty.Int W64 ∷ ty.Text ∷ []) refl (two-of (ty.Int W64) ty.Text refl refl) e
  has-types class.Array e = plain ty.Void (ty.Int W64 ∷ ty.Text ∷ []) refl (two-of (ty.Int W64) ty.Text refl refl) e
  has-types class.ResRecord e = plain ty.Void (ty.Res ∷ ty.Text ∷ []) refl (two-of ty.Res ty.Text refl refl) e
  has-types class.BoolRecord e = plain ty.Void (ty.Int W1 ∷ ty.Text ∷ []) refl (two-of (ty.Int W1) ty.Text refl refl) e
  has-types class.IntRecord e = plain ty.Void (ty.Int W64 ∷ ty.Text ∷ []) refl (two-of (ty.Int W64) ty.Text refl refl) e
  has-types class.DoubleRecord e = plain ty.Void (ty.Double ∷ ty.Text ∷ []) refl (two-of ty.Double ty.Text refl refl) e
  has-types class.Returning e = plain ty.Res (ty.Qubit ∷ []) refl (one-of ty.Qubit refl) e
  has-types class.Measure e = instruction-has 1 ret ts h hs e
  has-types class.Gate e = instruction-has 0 ret ts h hs e

  pub class-tells : (name : List ℕ) (c : Class) → class_of name (signature ret ts) ≡ Some c → HasTypes c ret ts
  class-tells name c e = has-types c (class-fits name (signature ret ts) c e)
