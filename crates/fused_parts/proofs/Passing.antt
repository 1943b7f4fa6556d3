-- How parts go on behind a configuration.
use Rattle.std.proofs.Common.{◌≡◌, ℕ, ◌-◌, ◌≤◌, Bool, true, false, List, [], ◌∷◌, ◌++◌, length, get_or, take, drop, refl, sym, ap, ◌∙◌, arith, append_assoc}
use Rattle.std.specs.Prelude.{Option}
use Rattle.ir_module.specs.declared.tree.Module.{Module}
use Rattle.residue.specs.declared.parts.Part.{Part}
use Rattle.fused_parts.specs.declared.parts.Making.{Making}
use Rattle.fused_parts.specs.Nodes.{Node, widths_of}
use Rattle.fused_parts.specs.Parts.{Rest, joined, lines_of, next_numbers, rest_from, tail_of, with_widths}
use Rattle.fused_parts.specs.code.Making.{passed, with_rest}
use Rattle.fused_parts.proofs.Counting.{behind}

module _ (m : Module) (nodes : List Node) (part_of : ℕ → ℕ) (shared : Option ℕ) where
  -- the rest of the part goes on, or begins another
  pass-rest : (x y : Node) (b : Bool) (s : Making) (r : Rest)
      → with_rest s (joined b (lines_of nodes x s.numbers) (tail_of part_of shared x s.numbers)
      (with_widths (next_numbers x b y s.numbers).mine (widths_of m y.node)) r)
      ≡ with_rest (passed m nodes part_of shared x b y s) r
  pass-rest x y true s r =
      ap (λ l. s.parts ++ (record { params = s.params; lines = l; tail = r.tail }) ∷ r.parts)
      (sym (append_assoc s.lines (lines_of nodes x s.numbers) r.lines))
  pass-rest x y false s r =
      let p : Part = record { params = s.params; lines = s.lines ++ lines_of nodes x s.numbers; tail = tail_of part_of shared x s.numbers } in
      let q : Part = record { params = with_widths (next_numbers x false y s.numbers).mine (widths_of m y.node); lines = r.lines; tail = r.tail } in
      sym (append_assoc s.parts (p ∷ []) (q ∷ r.parts))

  numbers-passed : (x y : Node) (b : Bool) (s : Making) → (passed m nodes part_of shared x b y s).numbers ≡ next_numbers x b y s.numbers
  numbers-passed x y true s = refl
  numbers-passed x y false s = refl

  -- the parts stay the same along the walk
  pass-keeps : (whole : List Part) (x y : Node) (xs : List Node) (b : Bool) (bs : List Bool) (s t : Making)
      → t ≡ passed m nodes part_of shared x b y s
      → whole ≡ with_rest s (rest_from m nodes part_of shared (x ∷ y ∷ xs) (b ∷ bs) s.numbers)
      → whole ≡ with_rest t (rest_from m nodes part_of shared (y ∷ xs) bs t.numbers)
  pass-keeps whole x y xs b bs s t is h =
      h ∙ pass-rest x y b s (rest_from m nodes part_of shared (y ∷ xs) bs (next_numbers x b y s.numbers))
      ∙ ap (λ n. with_rest (passed m nodes part_of shared x b y s) (rest_from m nodes part_of shared (y ∷ xs) bs n)) (sym (numbers-passed x y b s))
      ∙ ap (λ z. with_rest z (rest_from m nodes part_of shared (y ∷ xs) bs z.numbers)) (sym is)

  -- one configuration of those that are left, and its flag
  pub pass-next : (whole : List Part) (x y : Node) (rest : List Node) (flags : List Bool) (s t : Making) → 1 ≤ length rest → y ≡ get_or rest 0 y
      → 1 ≤ length flags → t ≡ passed m nodes part_of shared x (get_or flags 0 false) y s
      → whole ≡ with_rest s (rest_from m nodes part_of shared (x ∷ rest) flags s.numbers)
      → whole ≡ with_rest t
      (rest_from m nodes part_of shared (y ∷ take (length rest - 1) (drop 1 rest)) (take (length flags - 1) (drop 1 flags)) t.numbers)
  pass-next whole x y rest flags s t le first some is h =
      pass-keeps whole x y (take (length rest - 1) (drop 1 rest)) (get_or flags 0 false) (take (length flags - 1) (drop 1 flags)) s t is
      (h ∙ ap (λ xs. with_rest s (rest_from m nodes part_of shared (x ∷ xs) flags s.numbers)) (behind y rest le first)
      ∙ ap (λ bs. with_rest s (rest_from m nodes part_of shared (x ∷ y ∷ take (length rest - 1) (drop 1 rest)) bs s.numbers)) (flags-behind flags some))
    where
      flags-behind : (bs : List Bool) → 1 ≤ length bs → bs ≡ get_or bs 0 false ∷ take (length bs - 1) (drop 1 bs)
      flags-behind [] lt = absurd (omega (arith, lt))
      flags-behind (b ∷ bs) lt = behind b (b ∷ bs) lt refl
