-- The words of whole types tell the types.
use Rattle.std.proofs.Common.{◌≡◌, refl, ℕ, zero, suc, ◌+◌, true, List, [], ◌∷◌, ◌++◌, length, flat_map, sym, ap, ◌∙◌, subst, arith}
use Rattle.std.proofs.lemmas.List.Elements.{All-head, All-tail}
use Rattle.std.specs.List.{All}
use Rattle.ir_values.specs.declared.sig.TyWord.{TyWord}
use Rattle.ir_values.specs.declared.sig.TyWord.TheVariants as word
use Rattle.ir_values.specs.declared.ty.Ty.{Ty}
use Rattle.ir_values.specs.declared.ty.Ty.TheVariants as ty
use Rattle.ir_values.specs.Types.{IsTy, words_of, signature}
use Rattle.ir_values.specs.Words.{spells, is_sig}

-- how many types are to come behind a word, where n were to come besides its own
abbrev after : TyWord → ℕ → ℕ
after (word.Func k) n = suc (n + k)
after w n = n

spells-cons : (w : TyWord) (ws : List TyWord) (n : ℕ) → spells (w ∷ ws) (suc n) ≡ spells ws (after w n)
spells-cons word.Void ws n = refl
spells-cons (word.Int v) ws n = refl
spells-cons word.Double ws n = refl
spells-cons word.Qubit ws n = refl
spells-cons word.Res ws n = refl
spells-cons word.Text ws n = refl
spells-cons (word.Func k) ws n = refl

-- the words of n types are told from what follows them
decode : (n : ℕ) (a a' b b' : List TyWord) → spells a n ≡ true → spells a' n ≡ true → a ++ b ≡ a' ++ b' → (a ≡ a') × (b ≡ b')
decode zero [] [] b b' h h' e = (refl, e)
decode (suc n) [] a' b b' h h' e = cc
decode zero [] (w ∷ a') b b' h h' e = cc
decode zero (w ∷ a) a' b b' h h' e = cc
decode (suc n) (w ∷ a) [] b b' h h' e = cc
decode (suc n) (w ∷ a) (w' ∷ a') b b' h h' e =
    let head : w ≡ w' = cc in
    let tail : a ++ b ≡ a' ++ b' = cc in
    let h2 = sym (spells-cons w a n) ∙ h in
    let h2' = sym (spells-cons w' a' n) ∙ h' in
    let p = decode (after w n) a a' b b' h2 (subst (λ x. spells a' (after x n) ≡ true) (sym head) h2') tail in
    let q = p.0 in
    (cc, p.1)

one-sig : (ws : List TyWord) → is_sig ws ≡ true → spells ws 1 ≡ true
one-sig [] h = cc
one-sig (word.Func k ∷ ws) h = let e : suc (0 + k) ≡ suc k = omega arith in subst (λ n. spells ws n ≡ true) (sym e) h
one-sig (w ∷ ws) h = cc

pub one-type : (t : Ty) → IsTy t → spells (words_of t) 1 ≡ true
one-type ty.Void h = refl
one-type (ty.Int w) h = refl
one-type ty.Double h = refl
one-type ty.Qubit h = refl
one-type ty.Res h = refl
one-type ty.Text h = refl
one-type (ty.Func ws) h = one-sig ws h

words-tell : (t u : Ty) → IsTy t → IsTy u → words_of t ≡ words_of u → t ≡ u
words-tell (ty.Func ws) (ty.Func vs) h h' e = ap ty.Func e
words-tell (ty.Func ws) u h h' e = let q : is_sig (words_of u) ≡ true = subst (λ x. is_sig x ≡ true) e h in cc
words-tell t (ty.Func vs) h h' e = let q : is_sig (words_of t) ≡ true = subst (λ x. is_sig x ≡ true) (sym e) h' in cc
words-tell ty.Void ty.Void h h' e = refl
words-tell (ty.Int w) (ty.Int v) h h' e = cc
words-tell ty.Double ty.Double h h' e = refl
words-tell ty.Qubit ty.Qubit h h' e = refl
words-tell ty.Res ty.Res h h' e = refl
words-tell ty.Text ty.Text h h' e = refl
words-tell t u h h' e = cc

types-tell : (ts us : List Ty) → All IsTy ts → All IsTy us → length ts ≡ length us → flat_map words_of ts ≡ flat_map words_of us → ts ≡ us
types-tell [] [] h h' l e = refl
types-tell [] (u ∷ us) h h' l e = absurd (omega (arith, l))
types-tell (t ∷ ts) [] h h' l e = absurd (omega (arith, l))
types-tell (t ∷ ts) (u ∷ us) h h' l e =
    let it = All-head IsTy t ts h in
    let iu = All-head IsTy u us h' in
    let p = decode 1 (words_of t) (words_of u) (flat_map words_of ts) (flat_map words_of us) (one-type t it) (one-type u iu) e in
    let head = words-tell t u it iu p.0 in
    let tail = types-tell ts us (All-tail IsTy t ts h) (All-tail IsTy u us h') (omega (arith, l)) p.1 in
    cc

pub signature-tells : (t u : Ty) (ts us : List Ty) → IsTy t → IsTy u → All IsTy ts → All IsTy us → signature t ts ≡ signature u us → (t ≡ u) × (ts ≡ us)
signature-tells t u ts us it iu its ius e =
    let l : length ts ≡ length us = cc in
    let tail : words_of t ++ flat_map words_of ts ≡ words_of u ++ flat_map words_of us = cc in
    let p = decode 1 (words_of t) (words_of u) (flat_map words_of ts) (flat_map words_of us) (one-type t it) (one-type u iu) tail in
    (words-tell t u it iu p.0, types-tell ts us its ius l p.1)
