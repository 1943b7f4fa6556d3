-- Names are told apart by their bytes.
use Rattle.std.proofs.Common.{◌≡◌, ℕ, suc, ◌+◌, Bool, true, false, not, cond, arith, position, nat_lt, ◌≤◌, length, None, Some, ◌||◌, List, [], ◌∷◌, ◌++◌, map, refl, subst, sym, ap, ◌∙◌}
use Rattle.std.specs.Bool.{Decides}
use Rattle.std.specs.Cmp.Lexicographic.{bytes_decides}
use Rattle.std.specs.List.{list_any, position_or_len}
use Rattle.std.specs.Prelude.{if◌then◌else◌}
use Rattle.indexmap.specs.IndexSet.{insert_key}
use Rattle.ir_values.specs.Calls.{same_text}
use Rattle.ir_values.specs.Equal.{same_test}
use Rattle.ir_module.specs.declared.tree.Function.{Function}
use Rattle.called_functions.specs.declared.table.Table.{Table}
use Rattle.residue.specs.Functions.{Called, is_named, is_among, declaration, first_uses}
use Rattle.called_functions.specs.code.Tables.{Lists, called_names, place_named, with_call}

module _ (eq : List ℕ → List ℕ → Bool) (law : (a b : List ℕ) → Decides (eq a b) (a ≡ b)) (n : List ℕ) where
  same : (k : List ℕ) → eq n k ≡ same_text n k
  same k = same_test (eq n k) (same_text n k) (law n k) (bytes_decides n k)

  pub any-same : (ks : List (List ℕ)) → list_any (eq n) ks ≡ is_named ks n
  any-same [] = refl
  any-same (k ∷ ks) = ap (λ b. b || list_any (eq n) ks) (same k) ∙ ap (λ b. same_text n k || b) (any-same ks)

  pub place-same : (ks : List (List ℕ)) → position_or_len (eq n) ks ≡ place_named ks n
  place-same [] = refl
  place-same (k ∷ ks) = ap (λ b. cond (not b) (1 + position_or_len (eq n) ks) 0) (same k) ∙ by-test (same_text n k) (place-same ks)
    where
      by-test : (b : Bool) → position_or_len (eq n) ks ≡ place_named ks n → cond (not b) (1 + position_or_len (eq n) ks) 0 ≡ (if b then 0 else suc (place_named ks n))
      by-test true h = refl
      by-test false h = omega (arith, h)

-- a name more
pub named-append : (ks : List (List ℕ)) (k n : List ℕ) → is_named (ks ++ k ∷ []) n ≡ (is_named ks n || same_text n k)
named-append [] k n = or-none (same_text n k)
  where
    or-none : (b : Bool) → (b || false) ≡ b
    or-none true = refl
    or-none false = refl
named-append (m ∷ ks) k n = ap (λ b. same_text n m || b) (named-append ks k n) ∙ or-assoc (same_text n m) (is_named ks n) (same_text n k)
  where
    or-assoc : (a b c : Bool) → (a || (b || c)) ≡ ((a || b) || c)
    or-assoc true b c = refl
    or-assoc false b c = refl

named-there : (ks : List (List ℕ)) (k n : List ℕ) → is_named ks k ≡ true → (is_named ks n || same_text n k) ≡ is_named ks n
named-there ks k n h = by-test (same_text n k) refl
  where
    clash : {A : Type 0} → true ≡ false → A
    clash e = cc

    by-test : (b : Bool) → same_text n k ≡ b → (is_named ks n || b) ≡ is_named ks n
    by-test false e = or-none (is_named ks n)
      where
        or-none : (b : Bool) → (b || false) ≡ b
        or-none true = refl
        or-none false = refl
    by-test true e = let s : n ≡ k = (bytes_decides n k).0 e in ap (λ m. is_named ks m || true) s ∙ ap (λ b. b || true) h ∙ sym (ap (is_named ks) s ∙ h)

pub named-inserted : (eq : List ℕ → List ℕ → Bool) (law : (a b : List ℕ) → Decides (eq a b) (a ≡ b)) (ks : List (List ℕ)) (k n : List ℕ) → is_named (insert_key eq ks k) n ≡ (is_named ks n || same_text n k)
named-inserted eq law ks k n = by-test (list_any (eq k) ks) refl
  where
    by-test : (b : Bool) → list_any (eq k) ks ≡ b → is_named (if b then ks else ks ++ k ∷ []) n ≡ (is_named ks n || same_text n k)
    by-test true e = sym (named-there ks k n (sym (any-same eq law k ks) ∙ e))
    by-test false e = named-append ks k n

pub among-named : (cs : List Called) (n : List ℕ) → is_among cs n ≡ is_named (called_names cs) n
among-named [] n = refl
among-named (c ∷ cs) n = ap (λ b. same_text n c.name || b) (among-named cs n)

-- the test of a name, and then the rest
pub step-names : (eq : List ℕ → List ℕ → Bool) (law : (a b : List ℕ) → Decides (eq a b) (a ≡ b)) (ks rest : List (List ℕ)) (k n : List ℕ) → (is_named (insert_key eq ks k) n || is_named rest n) ≡ (is_named ks n || is_named (k ∷ rest) n)
step-names eq law ks rest k n = ap (λ b. b || is_named rest n) (named-inserted eq law ks k n) ∙ or-assoc (is_named ks n) (same_text n k) (is_named rest n)
  where
    or-assoc : (a b c : Bool) → ((a || b) || c) ≡ (a || (b || c))
    or-assoc true b c = refl
    or-assoc false b c = refl

pub set-step : (eq : List ℕ → List ℕ → Bool) (law : (a b : List ℕ) → Decides (eq a b) (a ≡ b)) (keys keys' all rest : List (List ℕ)) (k k' n : List ℕ) (x : Bool) → all ≡ k ∷ rest → keys' ≡ insert_key eq keys k' → k' ≡ k → (is_named keys n || is_named all n) ≡ x → (is_named keys' n || is_named rest n) ≡ x
set-step eq law keys keys' all rest k k' n x a i s h =
    ap (λ ks. is_named ks n || is_named rest n) (i ∙ ap (insert_key eq keys) s) ∙ step-names eq law keys rest k n ∙ ap (λ ks. is_named keys n || is_named ks n) (sym a) ∙ h

-- a name that is there already
pub declared-again : (irr : List (List ℕ)) (cs : List Called) (t : Table) (c : Called) → Lists irr cs t → is_named t.names.keys c.name ≡ true → Lists irr (with_call cs c) t
declared-again irr cs t c h e = subst (λ b. Lists irr (if b then cs else cs ++ c ∷ []) t) (sym (among-named cs c.name ∙ ap (λ ks. is_named ks c.name) (sym h.names) ∙ e)) h

map-append : {A B : Type 0} (f : A → B) (xs : List A) (y : A) → map f (xs ++ y ∷ []) ≡ map f xs ++ f y ∷ []
map-append f [] y = refl
map-append f (x ∷ xs) y = ap (λ l. f x ∷ l) (map-append f xs y)

-- a new one
pub declared-new : (eq : List ℕ → List ℕ → Bool) (law : (a b : List ℕ) → Decides (eq a b) (a ≡ b)) (irr : List (List ℕ)) (cs : List Called) (t t' : Table) (c : Called) (f : Function) → Lists irr cs t → is_named t.names.keys c.name ≡ false → t'.names.keys ≡ insert_key eq t.names.keys c.name → f ≡ declaration irr c → t'.functions ≡ t.functions ++ f ∷ [] → Lists irr (with_call cs c) t'
declared-new eq law irr cs t t' c f h e k d g =
    subst (λ b. Lists irr (if b then cs else cs ++ c ∷ []) t') (sym (among-named cs c.name ∙ ap (λ ks. is_named ks c.name) (sym h.names) ∙ e)) (record {
      names = k ∙ ap (λ b. if b then t.names.keys else t.names.keys ++ c.name ∷ []) (any-same eq law c.name t.names.keys ∙ e) ∙ ap (λ ks. ks ++ c.name ∷ []) h.names ∙ sym (map-append (λ c. c.name) cs c);
      functions = g ∙ ap (λ fs. fs ++ f ∷ []) h.functions ∙ ap (λ x. map (declaration irr) cs ++ x ∷ []) d ∙ sym (map-append (declaration irr) cs c);
    })

-- the place of a name by what a table tells
module _ (eq : List ℕ → List ℕ → Bool) (law : (a b : List ℕ) → Decides (eq a b) (a ≡ b)) (n : List ℕ) (ks : List (List ℕ)) where
  pub place-found : (i : ℕ) → Some i ≡ position (eq n) ks → place_named ks n ≡ i
  place-found i e = by (nat_lt (position_or_len (eq n) ks) (length ks)) refl
    where
      by : (b : Bool) → nat_lt (position_or_len (eq n) ks) (length ks) ≡ b → place_named ks n ≡ i
      by true t = let k : Some i ≡ Some (position_or_len (eq n) ks) = rw t at e in let p = place-same eq law n ks in cc
      by false t = let k : Some i ≡ None = rw t at e in absurd cc

  pub place-missing : None ≡ position (eq n) ks → place_named ks n ≡ length ks
  place-missing e = by (nat_lt (position_or_len (eq n) ks) (length ks)) refl
    where
      by : (b : Bool) → nat_lt (position_or_len (eq n) ks) (length ks) ≡ b → place_named ks n ≡ length ks
      by true t = let k : None ≡ Some (position_or_len (eq n) ks) = rw t at e in absurd cc
      by false t = sym (place-same eq law n ks) ∙ at-most (eq n) ks (not-less (position_or_len (eq n) ks) (length ks) t)
        where
          not-less : (a b : ℕ) → nat_lt a b ≡ false → b ≤ a
          not-less a b e = grind arith

          at-most : (p : List ℕ → Bool) (ks : List (List ℕ)) → length ks ≤ position_or_len p ks → position_or_len p ks ≡ length ks
          at-most p [] h = refl
          at-most p (k ∷ ks) h = by-test (p k) (λ h. at-most p ks h) h
            where
              by-test : (b : Bool) → (length ks ≤ position_or_len p ks → position_or_len p ks ≡ length ks) → length (k ∷ ks) ≤ cond (not b) (1 + position_or_len p ks) 0 → cond (not b) (1 + position_or_len p ks) 0 ≡ length (k ∷ ks)
              by-test true ih h = absurd (omega (arith, h))
              by-test false ih h = let g = ih (omega (arith, h)) in omega (arith, g)

-- the calls of some items, and then of others
pub uses-append : (cs xs ys : List Called) → first_uses cs (xs ++ ys) ≡ first_uses (first_uses cs xs) ys
uses-append cs [] ys = refl
uses-append cs (x ∷ xs) ys = uses-append (with_call cs x) xs ys
