-- Where the configurations stand in the parts that are made of them.
use Rattle.std.proofs.Common.{◌≡◌, ℕ, zero, suc, ◌<◌, Bool, true, false, Option, Some, List, [], ◌∷◌, ◌++◌, length, drop, refl, sym, ap, ◌∙◌, subst, arith, length-append, append_assoc, append-nil}
use Rattle.std.specs.Prelude.{slice_get}
use Rattle.ir_module.specs.declared.tree.Module.{Module}
use Rattle.ir_values.specs.declared.int.Width.{Width}
use Rattle.kept_items.specs.declared.val.Dyn.{Dyn}
use Rattle.residue.specs.declared.parts.Line.{Line}
use Rattle.residue.specs.declared.parts.Part.{Part}
use Rattle.fused_parts.specs.Nodes.{Node, widths_of}
use Rattle.fused_parts.specs.Parts.{Rest, Spot, alone, first_spot, joined, lines_of, next_numbers, next_spot, no_numbers, parts_of, rest_from, shared_part, spots, spots_from, tail_of, with_widths}
use Rattle.fused_parts.specs.Ranks.{goes_on}

get-drop : {A : Type 0} (xs : List A) (n : ℕ) (y : A) (ys : List A) → drop n xs ≡ y ∷ ys → slice_get xs n ≡ Some y
get-drop [] zero y ys h = cc
get-drop [] (suc n) y ys h = cc
get-drop (x ∷ xs) zero y ys h = let s : x ≡ y = cc in ap Some s
get-drop (x ∷ xs) (suc n) y ys h = get-drop xs n y ys h

drop-next : {A : Type 0} (xs : List A) (n : ℕ) (y : A) (ys : List A) → drop n xs ≡ y ∷ ys → drop (suc n) xs ≡ ys
drop-next [] zero y ys h = cc
drop-next [] (suc n) y ys h = cc
drop-next (x ∷ []) zero y ys h = cc
drop-next (x ∷ z ∷ xs) zero y ys h = cc
drop-next (x ∷ xs) (suc n) y ys h = drop-next xs n y ys h

module _ (m : Module) (nodes : List Node) (part_of : ℕ → ℕ) (shared : Option ℕ) where
  -- a configuration's lines stand at its spot, and where its part ends, its tail
  pub record StandsAt (all : List Part) (x : Node) (on : Bool) (s : Spot) : Type 0 where
    pub part : Part
    pub is : slice_get all s.part ≡ Some part
    pub before : List Line
    pub after : List Line
    pub many : length before ≡ s.line
    pub lines : part.lines ≡ before ++ (lines_of nodes x s.numbers ++ after)
    pub ends : on ≡ false → (after ≡ []) × (part.tail ≡ tail_of part_of shared x s.numbers)

  -- a configuration begins a part, whose parameters are its Dynamic values
  pub record BeginsAt (all : List Part) (y : Node) (s : Spot) : Type 0 where
    pub part : Part
    pub is : slice_get all s.part ≡ Some part
    pub at_first : s.line ≡ 0
    pub params : part.params ≡ with_widths s.numbers.mine (widths_of m y.node)

  -- the rest of the part of this spot, behind so many lines, and the parts behind it
  record IsRest (all : List Part) (s : Spot) (r : Rest) : Type 0 where
    part : Part
    is : slice_get all s.part ≡ Some part
    before : List Line
    many : length before ≡ s.line
    lines : part.lines ≡ before ++ r.lines
    tail : part.tail ≡ r.tail
    behind : drop (suc s.part) all ≡ r.parts ++ shared_part shared

  here : (all : List Part) (x : Node) (b : Bool) (params : List (Dyn × Width)) (s : Spot) (r : Rest)
      → IsRest all s (joined b (lines_of nodes x s.numbers) (tail_of part_of shared x s.numbers) params r) → StandsAt all x b s
  here all x true params s r h = record {
    part = h.part;
    is = h.is;
    before = h.before;
    after = r.lines;
    many = h.many;
    lines = h.lines;
    ends = λ f. absurd (clash f);
  }
    where
      clash : true ≡ false → ⊥
      clash e = cc
  here all x false params s r h = record {
    part = h.part;
    is = h.is;
    before = h.before;
    after = [];
    many = h.many;
    lines = h.lines ∙ ap (λ l. h.before ++ l) (sym (append-nil (lines_of nodes x s.numbers)));
    ends = λ f. (refl, h.tail);
  }

  here-alone : (all : List Part) (x : Node) (s : Spot) → IsRest all s (alone m nodes part_of shared x s.numbers) → StandsAt all x false s
  here-alone all x s h = record {
    part = h.part;
    is = h.is;
    before = h.before;
    after = [];
    many = h.many;
    lines = h.lines ∙ ap (λ l. h.before ++ l) (sym (append-nil (lines_of nodes x s.numbers)));
    ends = λ f. (refl, h.tail);
  }

  abbrev params_behind : Node → Bool → Node → Spot → List (Dyn × Width)
  params_behind x b y s = with_widths (next_numbers x b y s.numbers).mine (widths_of m y.node)

  -- the part that is begun behind one that ends
  begun : (all : List Part) (x y : Node) (s : Spot) (r : Rest)
      → IsRest all s (joined false (lines_of nodes x s.numbers) (tail_of part_of shared x s.numbers) (params_behind x false y s) r)
      → slice_get all (suc s.part) ≡ Some (record { params = params_behind x false y s; lines = r.lines; tail = r.tail })
  begun all x y s r h = get-drop all (suc s.part) (record { params = params_behind x false y s; lines = r.lines; tail = r.tail }) (r.parts ++ shared_part shared) h.behind

  next : (all : List Part) (x y : Node) (b : Bool) (s : Spot) (r : Rest)
      → IsRest all s (joined b (lines_of nodes x s.numbers) (tail_of part_of shared x s.numbers) (params_behind x b y s) r)
      → IsRest all (next_spot nodes x b y s) r
  next all x y true s r h = record {
    part = h.part;
    is = h.is;
    before = h.before ++ lines_of nodes x s.numbers;
    many = (let a = length-append h.before (lines_of nodes x s.numbers) in let c = h.many in omega (arith, a, c));
    lines = h.lines ∙ sym (append_assoc h.before (lines_of nodes x s.numbers) r.lines);
    tail = h.tail;
    behind = h.behind;
  }
  next all x y false s r h = record {
    part = record { params = params_behind x false y s; lines = r.lines; tail = r.tail };
    is = begun all x y s r h;
    before = [];
    many = refl;
    lines = refl;
    tail = refl;
    behind = drop-next all (suc s.part) (record { params = params_behind x false y s; lines = r.lines; tail = r.tail }) (r.parts ++ shared_part shared) h.behind;
  }

  node-stands : (all : List Part) (xs : List Node) (bs : List Bool) (s : Spot) → IsRest all s (rest_from m nodes part_of shared xs bs s.numbers)
      → (i : ℕ) (x : Node) (s' : Spot) → slice_get xs i ≡ Some x → slice_get (spots_from nodes xs bs s) i ≡ Some s' → StandsAt all x (goes_on xs bs i) s'
  node-stands all [] bs s h i x s' g e = cc
  node-stands all (y ∷ []) bs s h zero x s' g e =
      let p : y ≡ x = cc in
      let q : s ≡ s' = cc in
      subst (λ z. StandsAt all z false s') p (subst (StandsAt all y false) q (here-alone all y s h))
  node-stands all (y ∷ []) bs s h (suc i) x s' g e = cc
  node-stands all (y ∷ z ∷ xs) [] s h zero x s' g e =
      let p : y ≡ x = cc in
      let q : s ≡ s' = cc in
      subst (λ z. StandsAt all z false s') p (subst (StandsAt all y false) q (here-alone all y s h))
  node-stands all (y ∷ z ∷ xs) [] s h (suc i) x s' g e = cc
  node-stands all (y ∷ z ∷ xs) (b ∷ bs) s h zero x s' g e =
      let p : y ≡ x = cc in
      let q : s ≡ s' = cc in
      subst (λ z. StandsAt all z b s') p (subst (StandsAt all y b) q
      (here all y b (params_behind y b z s) s (rest_from m nodes part_of shared (z ∷ xs) bs (next_numbers y b z s.numbers)) h))
  node-stands all (y ∷ z ∷ xs) (b ∷ bs) s h (suc i) x s' g e =
      node-stands all (z ∷ xs) bs (next_spot nodes y b z s)
      (next all y z b s (rest_from m nodes part_of shared (z ∷ xs) bs (next_numbers y b z s.numbers)) h) i x s' g e

  node-begins : (all : List Part) (xs : List Node) (bs : List Bool) (s : Spot) → IsRest all s (rest_from m nodes part_of shared xs bs s.numbers)
      → (i : ℕ) (y : Node) (s' : Spot) → i < length bs → goes_on xs bs i ≡ false → slice_get xs (suc i) ≡ Some y
      → slice_get (spots_from nodes xs bs s) (suc i) ≡ Some s' → BeginsAt all y s'
  node-begins all [] bs s h i y s' lt f g e = cc
  node-begins all (a ∷ []) bs s h i y s' lt f g e = cc
  node-begins all (a ∷ z ∷ xs) [] s h i y s' lt f g e = absurd (omega (arith, lt))
  node-begins all (a ∷ z ∷ xs) (true ∷ bs) s h zero y s' lt f g e = cc
  node-begins all (a ∷ z ∷ xs) (false ∷ bs) s h zero y s' lt f g e =
      let w : z ≡ y = cc in
      let n : Spot = next_spot nodes a false z s in
      let r : Rest = rest_from m nodes part_of shared (z ∷ xs) bs n.numbers in
      subst (λ t. BeginsAt all y t) (sym (first xs bs n s' e)) (subst (λ t. BeginsAt all t n) w (record {
        part = record { params = params_behind a false z s; lines = r.lines; tail = r.tail };
        is = begun all a z s r h;
        at_first = refl;
        params = refl;
      }))
    where
      first : (xs : List Node) (bs : List Bool) (n s' : Spot) → slice_get (spots_from nodes (z ∷ xs) bs n) zero ≡ Some s' → s' ≡ n
      first [] bs n s' e = cc
      first (d ∷ xs) [] n s' e = cc
      first (d ∷ xs) (b ∷ bs) n s' e = cc
  node-begins all (a ∷ z ∷ xs) (b ∷ bs) s h (suc i) y s' lt f g e =
      node-begins all (z ∷ xs) bs (next_spot nodes a b z s)
      (next all a z b s (rest_from m nodes part_of shared (z ∷ xs) bs (next_numbers a b z s.numbers)) h) i y s' (omega (arith, lt)) f g e

  abbrev parts : List Bool → List Part
  parts flags = parts_of m part_of shared nodes flags

  whole-rest : (flags : List Bool) → IsRest (parts flags) first_spot (rest_from m nodes part_of shared nodes flags no_numbers)
  whole-rest flags =
      let r = rest_from m nodes part_of shared nodes flags no_numbers in record {
        part = record { params = []; lines = r.lines; tail = r.tail };
        is = refl;
        before = [];
        many = refl;
        lines = refl;
        tail = refl;
        behind = refl;
      }

  -- every configuration stands in the parts
  pub all-stand : (flags : List Bool) (i : ℕ) (x : Node) (s : Spot) → slice_get nodes i ≡ Some x → slice_get (spots nodes flags) i ≡ Some s
      → StandsAt (parts_of m part_of shared nodes flags) x (goes_on nodes flags i) s
  all-stand flags i x s g e = node-stands (parts flags) nodes flags first_spot (whole-rest flags) i x s g e

  -- and behind one that ends a part, another is begun
  pub all-begin : (flags : List Bool) (i : ℕ) (y : Node) (s : Spot) → i < length flags → goes_on nodes flags i ≡ false → slice_get nodes (suc i) ≡ Some y
      → slice_get (spots nodes flags) (suc i) ≡ Some s → BeginsAt (parts_of m part_of shared nodes flags) y s
  all-begin flags i y s lt f g e = node-begins (parts flags) nodes flags first_spot (whole-rest flags) i y s lt f g e
