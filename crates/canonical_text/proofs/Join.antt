-- How parts that stand apart are put together.
use Rattle.std.proofs.Common.{◌≡◌, ℕ, Bool, true, false, List, [], ◌∷◌, ◌++◌, refl, sym, subst}
use Rattle.std.specs.Prelude.{not, ◌&&◌, map, flat_map}
use Rattle.std.specs.List.{list_all}
use Rattle.std.proofs.lemmas.Bool.{and_parts, and_from}
use Rattle.ir_values.specs.Double.{begins, is_nil}
use Rattle.ir_text.specs.Tokens.{is_blank}
use Rattle.ir_text.specs.declared.tok.Tok.{Tok}
use Rattle.ir_parts.specs.Parts.{Part, gap, token}
use Rattle.ir_parts.specs.Spaced.{joins, is_open_ended, is_written, spaced}
use Rattle.ir_printer.specs.Pieces.{comma, line_end, further, listed}

same_or_looser : (b : Bool) (ps : List Part) → (spaced true ps ≡ true → spaced false ps ≡ true) → spaced b ps ≡ true → spaced false ps ≡ true
same_or_looser true ps f h = f h
same_or_looser false ps f h = h

-- what may stand behind an open end may stand anywhere
pub loosen : (ps : List Part) → spaced true ps ≡ true → spaced false ps ≡ true
loosen [] h = refl
loosen (gap s ∷ ps) h =
    let p = and_parts (list_all is_blank s) (spaced (is_nil s) ps) h in
    and_from (list_all is_blank s) (spaced false ps) p.0 (same_or_looser (is_nil s) ps (loosen ps) p.1)
loosen (token kind s ∷ ps) h =
    let p = and_parts (not (begins joins s) && is_written kind s) (spaced (is_open_ended kind) ps) h in
    let q = and_parts (not (begins joins s)) (is_written kind s) p.0 in
    and_from (is_written kind s) (spaced (is_open_ended kind) ps) q.1 p.1

pub weaken : (b : Bool) (ps : List Part) → spaced true ps ≡ true → spaced b ps ≡ true
weaken true ps h = h
weaken false ps h = loosen ps h

-- Parts, and parts that may stand behind an open end.
pub join : (b : Bool) (xs ys : List Part) → spaced b xs ≡ true → spaced true ys ≡ true → spaced b (xs ++ ys) ≡ true
join b [] ys h k = weaken b ys k
join b (gap s ∷ xs) ys h k =
    let p = and_parts (list_all is_blank s) (spaced (b && is_nil s) xs) h in
    and_from (list_all is_blank s) (spaced (b && is_nil s) (xs ++ ys)) p.0 (join (b && is_nil s) xs ys p.1 k)
join b (token kind s ∷ xs) ys h k =
    let here = not (b && begins joins s) && is_written kind s in
    let p = and_parts here (spaced (is_open_ended kind) xs) h in
    and_from here (spaced (is_open_ended kind) (xs ++ ys)) p.0 (join (is_open_ended kind) xs ys p.1 k)

-- a token where none stands directly before
pub then_token : (kind : Tok) (s : List ℕ) (ps : List Part) → is_written kind s ≡ true → spaced (is_open_ended kind) ps ≡ true → spaced false (token kind s ∷ ps) ≡ true
then_token kind s ps h k = and_from (is_written kind s) (spaced (is_open_ended kind) ps) h k

-- parts that stand apart
abbrev pub Good : List Part → Type 0
Good ps = spaced false ps ≡ true

-- and may stand behind a token that could go on
abbrev pub Safe : List Part → Type 0
Safe ps = spaced true ps ≡ true

-- parts, a comma and parts
pub with_comma : (xs ys : List Part) → Good xs → Good ys → Good (xs ++ (comma ++ ys))
with_comma xs ys h k = join false xs (comma ++ ys) h k

-- Lists with commas.

abbrev pub AllGood : List (List Part) → Type 0
AllGood [] = Unit {0}
AllGood (ps ∷ pss) = Good ps × AllGood pss

pub further_safe : (pss : List (List Part)) → AllGood pss → Safe (further pss)
further_safe [] h = refl
further_safe (ps ∷ pss) h = join false ps (further pss) h.0 (further_safe pss h.1)

pub listed_good : (pss : List (List Part)) → AllGood pss → Good (listed pss)
listed_good [] h = refl
listed_good (ps ∷ pss) h = join false ps (further pss) h.0 (further_safe pss h.1)

-- what each of some items is printed as
pub all_good : {A : Type 0} (f : A → List Part) (p : A → Bool) (xs : List A) → ((x : A) → p x ≡ true → Good (f x)) → list_all p xs ≡ true → AllGood (map f xs)
all_good f p [] g h = tt
all_good f p (x ∷ xs) g h =
    let w = and_parts (p x) (list_all p xs) h in
    (g x w.0, all_good f p xs g w.1)

-- lines one after another
pub lines_safe : {A : Type 0} (f : A → List Part) (p : A → Bool) (xs : List A) → ((x : A) → p x ≡ true → Safe (f x)) → list_all p xs ≡ true → Safe (flat_map f xs)
lines_safe f p [] g h = refl
lines_safe f p (x ∷ xs) g h =
    let w = and_parts (p x) (list_all p xs) h in
    join true (f x) (flat_map f xs) (g x w.0) (lines_safe f p xs g w.1)

-- ---- lines

-- whether parts end with a token that could go on
abbrev pub ends_open : Bool → List Part → Bool
ends_open joined [] = joined
ends_open joined (gap s ∷ ps) = ends_open (joined && is_nil s) ps
ends_open joined (token kind s ∷ ps) = ends_open (is_open_ended kind) ps

pub chain : (b : Bool) (xs ys : List Part) → spaced b xs ≡ true → spaced (ends_open b xs) ys ≡ true → spaced b (xs ++ ys) ≡ true
chain b [] ys h k = k
chain b (gap s ∷ xs) ys h k =
    let p = and_parts (list_all is_blank s) (spaced (b && is_nil s) xs) h in
    and_from (list_all is_blank s) (spaced (b && is_nil s) (xs ++ ys)) p.0 (chain (b && is_nil s) xs ys p.1 k)
chain b (token kind s ∷ xs) ys h k =
    let here = not (b && begins joins s) && is_written kind s in
    let p = and_parts here (spaced (is_open_ended kind) xs) h in
    and_from here (spaced (is_open_ended kind) (xs ++ ys)) p.0 (chain (is_open_ended kind) xs ys p.1 k)

-- parts end as the last of them do
pub ends_behind : (b : Bool) (xs zs : List Part) → ((c : Bool) → ends_open c zs ≡ false) → ends_open b (xs ++ zs) ≡ false
ends_behind b [] zs h = h b
ends_behind b (gap s ∷ xs) zs h = ends_behind (b && is_nil s) xs zs h
ends_behind b (token kind s ∷ xs) zs h = ends_behind (is_open_ended kind) xs zs h

pub ends_append : (b : Bool) (xs ys : List Part) → ends_open b (xs ++ ys) ≡ ends_open (ends_open b xs) ys
ends_append b [] ys = refl
ends_append b (gap s ∷ xs) ys = ends_append (b && is_nil s) xs ys
ends_append b (token kind s ∷ xs) ys = ends_append (is_open_ended kind) xs ys

pub line_ends : (b : Bool) → ends_open b (line_end ∷ []) ≡ false
line_ends true = refl
line_ends false = refl

-- anything may stand behind parts that end so
pub line_join : (b : Bool) (xs ys : List Part) → spaced b xs ≡ true → ends_open b xs ≡ false → Good ys → spaced b (xs ++ ys) ≡ true
line_join b xs ys h e k = chain b xs ys h (subst (λ c. spaced c ys ≡ true) (sym e) k)

pub lines_good : {A : Type 0} (f : A → List Part) (p : A → Bool) (xs : List A) → ((x : A) → p x ≡ true → Good (f x)) → ((x : A) → ends_open false (f x) ≡ false) → list_all p xs ≡ true → Good (flat_map f xs)
lines_good f p [] g e h = refl
lines_good f p (x ∷ xs) g e h =
    let w = and_parts (p x) (list_all p xs) h in
    line_join false (f x) (flat_map f xs) (g x w.0) (e x) (lines_good f p xs g e w.1)
