-- Counting edges one by one.
use Rattle.std.proofs.Common.{◌≡◌, ℕ, zero, suc, ◌-◌, ◌<◌, ◌≤◌, Bool, true, false, Some, List, [], ◌∷◌, ◌++◌, length, get_or, take, drop, refl, sym, ap, ◌∙◌, subst, arith}
use Rattle.std.specs.Prelude.{◌==◌, if◌then◌else◌, slice_get, slice_set}
use Rattle.std.specs.Cmp.{unsigned_Decides}
use Rattle.std.proofs.lemmas.Grind.{common_steps}
use Rattle.std.proofs.lemmas.Option.{slice_get_within}
use Rattle.kept_items.specs.declared.val.Dyn.{Dyn}
use Rattle.path_search.specs.declared.visit.Link.{Link}
use Rattle.fused_parts.specs.declared.flags.Entered.{Entered}
use Rattle.fused_parts.specs.declared.flags.Entered.TheVariants.{Never}
use Rattle.fused_parts.specs.Nodes.{Links, Node, entered_by, more}
use Rattle.fused_parts.specs.code.Counting.{AllNever, AreCounted, AreCountedTo, Counts, CountsTo}

clash : false ≡ true → ⊥
clash e = cc

-- what is left behind the first of a list
pub behind : {A : Type 0} (d : A) (ws : List A) → 1 ≤ length ws → d ≡ get_or ws 0 d → ws ≡ d ∷ take (length ws - 1) (drop 1 ws)
behind d [] le e = absurd (omega arith)
behind d (w ∷ ws) le e = ap (λ z. z ∷ ws) (sym e) ∙ ap (λ z. d ∷ z) (sym (rest-is w ws))
  where
    rest-is : {A : Type 0} (w : A) (ws : List A) → take (length (w ∷ ws) - 1) (drop 1 (w ∷ ws)) ≡ ws
    rest-is w ws = grind (arith, common_steps)

-- ---- the table at the start

get-pushed : (t : List Entered) (k : ℕ) → ((j : ℕ) → j < length t → slice_get t j ≡ Some Never) → k < suc (length t) → slice_get (t ++ Never ∷ []) k ≡ Some Never
get-pushed [] zero all lt = refl
get-pushed [] (suc k) all lt = absurd (omega (arith, lt))
get-pushed (x ∷ t) zero all lt = all 0 (omega arith)
get-pushed (x ∷ t) (suc k) all lt = get-pushed t k (λ j l. all (suc j) (omega (arith, l))) (omega (arith, lt))

length-pushed : (t : List Entered) → length (t ++ Never ∷ []) ≡ suc (length t)
length-pushed [] = refl
length-pushed (x ∷ t) = ap suc (length-pushed t)

pub one-never : AllNever 1 ([] ++ Never ∷ [])
one-never = record { many = refl; each = λ k lt. get-pushed [] k (λ j l. absurd (omega (arith, l))) lt }

pub never-more : (n : ℕ) (t : List Entered) → AllNever n t → AllNever (suc n) (t ++ Never ∷ [])
never-more n t h = record {
  many = length-pushed t ∙ ap suc h.many;
  each = λ k lt. get-pushed t k (λ j l. h.each j (let m = h.many in omega (arith, l, m))) (let m = h.many in omega (arith, lt, m));
}

-- ---- one link

get-set : (t : List Entered) (n : ℕ) (v : Entered) → n < length t → slice_get (slice_set t n v) n ≡ Some v
get-set [] n v lt = absurd (omega (arith, lt))
get-set (x ∷ t) zero v lt = refl
get-set (x ∷ t) (suc n) v lt = get-set t n v (omega (arith, lt))

get-other : (t : List Entered) (n : ℕ) (v : Entered) (k : ℕ) → (n ≡ k → ⊥) → slice_get (slice_set t n v) k ≡ slice_get t k
get-other [] n v k h = refl
get-other (x ∷ t) zero v zero h = absurd (h refl)
get-other (x ∷ t) zero v (suc k) h = refl
get-other (x ∷ t) (suc n) v zero h = refl
get-other (x ∷ t) (suc n) v (suc k) h = get-other t n v k (λ e. h (ap suc e))

length-set : (t : List Entered) (n : ℕ) (v : Entered) → length (slice_set t n v) ≡ length t
length-set [] n v = refl
length-set (x ∷ t) zero v = refl
length-set (x ∷ t) (suc n) v = ap suc (length-set t n v)

pub none-counted : (links : Links) (old : List Entered) → CountsTo links links old old
none-counted links old = record { many = refl; each = λ k e h. (e, h, refl) }

pub all-counted : (links : Links) (old now : List Entered) → CountsTo links [] old now → Counts links old now
all-counted links old now h = record {
  many = h.many;
  each = λ k e g. let (f, at, is) = h.each k e g in at ∙ ap Some (sym is);
}

module _ (links : Links) (l : Link (List Dyn)) (rest : Links) (old now : List Entered) (h : CountsTo links (l ∷ rest) old now) where
  -- the table has its target
  pub counted-one : (x : Entered) → slice_get now l.to ≡ Some x → CountsTo links rest old (slice_set now l.to (more x))
  counted-one x is = record {
    many = length-set now l.to (more x) ∙ h.many;
    each = λ k e g. let (f, at, same) = h.each k e g in by-test k e f at same (l.to == k) refl;
  }
    where
      by-test : (k : ℕ) (e f : Entered) → slice_get now k ≡ Some f → entered_by k links e ≡ entered_by k rest (if l.to == k then more f else f) → (b : Bool) → (l.to == k) ≡ b
          → (f' : Entered) × (slice_get (slice_set now l.to (more x)) k ≡ Some f') × (entered_by k links e ≡ entered_by k rest f')
      by-test k e f at same true t =
          let n : l.to ≡ k = (unsigned_Decides l.to k).0 t in
          let y : x ≡ f = same-some x f (sym is ∙ ap (slice_get now) n ∙ at) in (
            more f,
            sym (ap (λ z. slice_get (slice_set now l.to (more x)) z) n) ∙ get-set now l.to (more x) (slice_get_within now l.to x is) ∙ ap (λ z. Some (more z)) y,
            same ∙ ap (λ b. entered_by k rest (if b then more f else f)) t,
          )
        where
          same-some : (a b : Entered) → Some a ≡ Some b → a ≡ b
          same-some a b e = cc
      by-test k e f at same false t = (f, get-other now l.to (more x) k (λ n. clash (sym t ∙ (unsigned_Decides l.to k).1 n)) ∙ at, same ∙ ap (λ b. entered_by k rest (if b then more f else f)) t)

  -- or hasn't
  pub counted-none : (l.to < length now → ⊥) → CountsTo links rest old now
  counted-none past = record {
    many = h.many;
    each = λ k e g. let (f, at, same) = h.each k e g in by-test k e f at same (l.to == k) refl;
  }
    where
      by-test : (k : ℕ) (e f : Entered) → slice_get now k ≡ Some f → entered_by k links e ≡ entered_by k rest (if l.to == k then more f else f) → (b : Bool) → (l.to == k) ≡ b
          → (f' : Entered) × (slice_get now k ≡ Some f') × (entered_by k links e ≡ entered_by k rest f')
      by-test k e f at same true t = absurd (past (subst (λ z. z < length now) (sym ((unsigned_Decides l.to k).0 t)) (slice_get_within now k f at)))
      by-test k e f at same false t = (f, at, same ∙ ap (λ b. entered_by k rest (if b then more f else f)) t)

pub one-link : (links rest : Links) (old now new : List Entered) (l : Link (List Dyn)) (x y : Entered) → 1 ≤ length rest → l ≡ get_or rest 0 l
    → CountsTo links rest old now → slice_get now l.to ≡ Some x → y ≡ more x → new ≡ slice_set now l.to y
    → CountsTo links (take (length rest - 1) (drop 1 rest)) old new
one-link links rest old now new l x y le first h is e set =
    let tail : Links = take (length rest - 1) (drop 1 rest) in
    subst (CountsTo links tail old) (sym (set ∙ ap (slice_set now l.to) e))
    (counted-one links l tail old now (subst (λ z. CountsTo links z old now) (behind l rest le first) h) x is)

pub no-link : (links rest : Links) (old now : List Entered) (l : Link (List Dyn)) → 1 ≤ length rest → l ≡ get_or rest 0 l
    → CountsTo links rest old now → (l.to < length now → ⊥) → CountsTo links (take (length rest - 1) (drop 1 rest)) old now
no-link links rest old now l le first h past =
    counted-none links l (take (length rest - 1) (drop 1 rest)) old now (subst (λ z. CountsTo links z old now) (behind l rest le first) h) past

-- ---- all edges

pub none-are-counted : (nodes : List Node) (t : List Entered) → AllNever (suc (length nodes)) t → AreCountedTo nodes nodes t
none-are-counted nodes t h = record { many = h.many; each = λ k lt. (Never, h.each k lt, refl) }

pub node-counted : (nodes : List Node) (x : Node) (rest : List Node) (old new : List Entered) → AreCountedTo nodes (x ∷ rest) old → Counts x.links old new → AreCountedTo nodes rest new
node-counted nodes x rest old new h c = record {
  many = c.many ∙ h.many;
  each = λ k lt. let (f, at, is) = h.each k lt in (entered_by k x.links f, c.each k f at, is);
}

pub all-are-counted : (nodes : List Node) (t : List Entered) → AreCountedTo nodes [] t → AreCounted nodes t
all-are-counted nodes t h = record { many = h.many; each = λ k lt. let (f, at, is) = h.each k lt in at ∙ ap Some (sym is) }

pub one-node : (nodes rest : List Node) (old new : List Entered) (x : Node) (links : Links) → 1 ≤ length rest → x ≡ get_or rest 0 x
    → AreCountedTo nodes rest old → links ≡ x.links → Counts links old new → AreCountedTo nodes (take (length rest - 1) (drop 1 rest)) new
one-node nodes rest old new x links le first h e c =
    node-counted nodes x (take (length rest - 1) (drop 1 rest)) old new (subst (λ z. AreCountedTo nodes z old) (behind x rest le first) h)
    (subst (λ z. Counts z old new) e c)

pub no-node : (nodes rest : List Node) (t : List Entered) → length rest < 1 → AreCountedTo nodes rest t → AreCounted nodes t
no-node nodes [] t lt h = all-are-counted nodes t h
no-node nodes (x ∷ rest) t lt h = absurd (omega (arith, lt))
