-- Parts in the making.
use Rattle.std.specs.Prelude.{ℕ, Bool, true, false, Option, List, [], ◌∷◌, ◌++◌}
use Rattle.ir_module.specs.declared.tree.Module.{Module}
use Rattle.residue.specs.declared.parts.Part.{Part}
use Rattle.fused_parts.specs.declared.parts.Making.{Making}
use Rattle.fused_parts.specs.Nodes.{Node, widths_of}
use Rattle.fused_parts.specs.Parts.{Rest, after, lines_of, next_numbers, tail_of, with_widths}

-- the parts with this rest behind what is made
abbrev pub with_rest : Making → Rest → List Part
with_rest s r = s.parts ++ (record { params = s.params; lines = s.lines ++ r.lines; tail = r.tail }) ∷ r.parts

-- with what is left of a configuration
abbrev pub added : List Node → Node → Making → Making
added nodes x s = record { parts = s.parts; params = s.params; lines = s.lines ++ lines_of nodes x s.numbers; numbers = after x s.numbers }

module _ (m : Module) (nodes : List Node) (part_of : ℕ → ℕ) (shared : Option ℕ) where
  -- behind configuration x, where y goes on in its part or begins the next
  abbrev pub passed : Node → Bool → Node → Making → Making
  passed x true y s = record {
    parts = s.parts;
    params = s.params;
    lines = s.lines ++ lines_of nodes x s.numbers;
    numbers = next_numbers x true y s.numbers;
  }
  passed x false y s = record {
    parts = s.parts ++ (record { params = s.params; lines = s.lines ++ lines_of nodes x s.numbers; tail = tail_of part_of shared x s.numbers }) ∷ [];
    params = with_widths (next_numbers x false y s.numbers).mine (widths_of m y.node);
    lines = [];
    numbers = next_numbers x false y s.numbers;
  }
