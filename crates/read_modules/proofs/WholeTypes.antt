-- The words of function pointer types: they spell one type, nest as deep as its parts and one deeper, and `void` is only returned.
use Rattle.std.proofs.Common.{◌≡◌, ℕ, zero, suc, ◌+◌, ◌≤◌, max, true, false, List, [], ◌∷◌, ◌++◌, length, flat_map, refl, sym, ap, ◌∙◌, subst, arith, append_assoc}
use Rattle.ir_values.specs.declared.sig.TyWord.{TyWord}
use Rattle.ir_values.specs.declared.sig.TyWord.TheVariants as word
use Rattle.ir_values.specs.declared.ty.Ty.{Ty}
use Rattle.ir_values.specs.declared.ty.Ty.TheVariants as ty
use Rattle.ir_values.specs.Types.{is_ty, words_of, signature}
use Rattle.ir_values.specs.Words.{spells, is_sig}
use Rattle.ir_module.specs.Printable.{behind_type, behind_word, deepest, voids_return}
use Rattle.read_modules.proofs.Each.{Each}

-- They spell one type.

spells-append : (a b : List TyWord) (n m k : ℕ) → k ≡ n + m → spells a n ≡ true → spells (a ++ b) k ≡ spells b m
spells-append [] b zero m k e h = let i : k ≡ m = omega arith in ap (spells b) i
spells-append [] b (suc n) m k e h = absurd (cc)
spells-append (w ∷ a) b zero m k e h = absurd (cc)
spells-append (w ∷ a) b (suc n) m zero e h = absurd (omega arith)
spells-append (word.Func j ∷ a) b (suc n) m (suc k) e h = spells-append a b (suc (n + j)) m (suc (k + j)) (omega arith) h
spells-append (word.Void ∷ a) b (suc n) m (suc k) e h = spells-append a b n m k (omega arith) h
spells-append (word.Int w ∷ a) b (suc n) m (suc k) e h = spells-append a b n m k (omega arith) h
spells-append (word.Double ∷ a) b (suc n) m (suc k) e h = spells-append a b n m k (omega arith) h
spells-append (word.Qubit ∷ a) b (suc n) m (suc k) e h = spells-append a b n m k (omega arith) h
spells-append (word.Res ∷ a) b (suc n) m (suc k) e h = spells-append a b n m k (omega arith) h
spells-append (word.Text ∷ a) b (suc n) m (suc k) e h = spells-append a b n m k (omega arith) h

one_sig : (ws : List TyWord) → is_sig ws ≡ true → spells ws 1 ≡ true
one_sig [] h = absurd (cc)
one_sig (word.Func k ∷ ws) h = let e : suc (0 + k) ≡ suc k = omega arith in subst (λ n. spells ws n ≡ true) (sym e) h
one_sig (word.Void ∷ ws) h = absurd (cc)
one_sig (word.Int w ∷ ws) h = absurd (cc)
one_sig (word.Double ∷ ws) h = absurd (cc)
one_sig (word.Qubit ∷ ws) h = absurd (cc)
one_sig (word.Res ∷ ws) h = absurd (cc)
one_sig (word.Text ∷ ws) h = absurd (cc)

one_type : (t : Ty) → is_ty t ≡ true → spells (words_of t) 1 ≡ true
one_type ty.Void h = refl
one_type (ty.Int w) h = refl
one_type ty.Double h = refl
one_type ty.Qubit h = refl
one_type ty.Res h = refl
one_type ty.Text h = refl
one_type (ty.Func ws) h = one_sig ws h

many_types : (ts : List Ty) → Each (λ t. is_ty t ≡ true) ts → spells (flat_map words_of ts) (length ts) ≡ true
many_types [] h = refl
many_types (t ∷ ts) h =
    spells-append (words_of t) (flat_map words_of ts) 1 (length ts) (length (t ∷ ts)) (omega arith) (one_type t h.0) ∙ many_types ts h.1

pub signature_whole : (t : Ty) (ts : List Ty) → is_ty t ≡ true → Each (λ u. is_ty u ≡ true) ts → is_sig (signature t ts) ≡ true
signature_whole t ts h hs =
    spells-append (words_of t) (flat_map words_of ts) 1 (length ts) (suc (length ts)) (omega arith) (one_type t h) ∙ many_types ts hs

-- They nest n deep.

pub record Nests (n : ℕ) (ws : List TyWord) : Type 0 where
  pub deep : (open_types : List ℕ) (rest : List TyWord) → deepest open_types (ws ++ rest) ≤ max (length open_types + n) (deepest (behind_type open_types) rest)

fewer_behind : (open_types : List ℕ) → length (behind_type open_types) ≤ length open_types
fewer_behind [] = omega arith
fewer_behind (zero ∷ open_types) = omega (arith, fewer_behind open_types)
fewer_behind (suc n ∷ open_types) = omega arith

pub nests_word : (w : TyWord) → ((open_types : List ℕ) → behind_word open_types w ≡ behind_type open_types) → Nests 0 (w ∷ [])
nests_word w e = record {
  deep = λ open_types rest. let f = fewer_behind open_types in let b = e open_types in
      subst (λ o. max (length o) (deepest o rest) ≤ max (length open_types + 0) (deepest (behind_type open_types) rest)) (sym b) (omega arith);
}

-- the types of the parameters, of which as many follow as the innermost open function pointer type has
parameters_nest : (m : ℕ) (ts : List Ty) → Each (λ t. Nests m (words_of t)) ts → (open_types : List ℕ) (rest : List TyWord)
    → deepest (behind_type (length ts ∷ open_types)) (flat_map words_of ts ++ rest) ≤ max (length open_types + 1 + m) (deepest (behind_type open_types) rest)
parameters_nest m [] h open_types rest = omega arith
parameters_nest m (t ∷ ts) h open_types rest =
    let e = append_assoc (words_of t) (flat_map words_of ts) rest in
    let first = h.0.deep (length ts ∷ open_types) (flat_map words_of ts ++ rest) in
    let others = parameters_nest m ts h.1 open_types rest in
    subst (λ ws. deepest (length ts ∷ open_types) ws ≤ max (length open_types + 1 + m) (deepest (behind_type open_types) rest)) (sym e) (omega arith)

pub signature_nests : (n : ℕ) (t : Ty) (ts : List Ty) → Nests n (words_of t) → Each (λ u. Nests n (words_of u)) ts → Nests (n + 1) (signature t ts)
signature_nests n t ts h hs = record {
  deep = λ open_types rest.
      let e = append_assoc (words_of t) (flat_map words_of ts) rest in
      let first = h.deep (length ts ∷ open_types) (flat_map words_of ts ++ rest) in
      let others = parameters_nest n ts hs open_types rest in
      subst (λ ws. max (length (length ts ∷ open_types)) (deepest (length ts ∷ open_types) ws) ≤ max (length open_types + (n + 1)) (deepest (behind_type open_types) rest)) (sym e) (omega arith);
}

pub nests_more : (m n : ℕ) (ws : List TyWord) → m ≤ n → Nests m ws → Nests n ws
nests_more m n ws l h = record { deep = λ open_types rest. omega (arith, h.deep open_types rest) }

-- Words of a type that is returned, and of one that isn't `void`: no word `void` that follows them is returned.

pub record Returns (ws : List TyWord) : Type 0 where
  pub behind : (rest : List TyWord) → voids_return true (ws ++ rest) ≡ voids_return false rest

pub record Takes (ws : List TyWord) : Type 0 where
  pub behind : (rest : List TyWord) → voids_return false (ws ++ rest) ≡ voids_return false rest

parameters_take : (ts : List Ty) → Each (λ t. Takes (words_of t)) ts → Takes (flat_map words_of ts)
parameters_take [] h = record { behind = λ rest. refl }
parameters_take (t ∷ ts) h = record {
  behind = λ rest. ap (voids_return false) (append_assoc (words_of t) (flat_map words_of ts) rest) ∙ h.0.behind (flat_map words_of ts ++ rest) ∙ (parameters_take ts h.1).behind rest;
}

-- what is returned and the parameters
behind_returned : (t : Ty) (ts : List Ty) → Returns (words_of t) → Each (λ u. Takes (words_of u)) ts
    → (rest : List TyWord) → voids_return true ((words_of t ++ flat_map words_of ts) ++ rest) ≡ voids_return false rest
behind_returned t ts h hs rest =
    ap (voids_return true) (append_assoc (words_of t) (flat_map words_of ts) rest) ∙ h.behind (flat_map words_of ts ++ rest) ∙ (parameters_take ts hs).behind rest

pub signature_returns : (t : Ty) (ts : List Ty) → Returns (words_of t) → Each (λ u. Takes (words_of u)) ts → Returns (signature t ts)
signature_returns t ts h hs = record { behind = behind_returned t ts h hs }

pub signature_takes : (t : Ty) (ts : List Ty) → Returns (words_of t) → Each (λ u. Takes (words_of u)) ts → Takes (signature t ts)
signature_takes t ts h hs = record { behind = behind_returned t ts h hs }
