-- The attributes of a function, and the entry of a module: the first function with a body and the attribute "entry_point"
-- (QIR specification, 'Entry Point').
use Rattle.std.specs.Prelude.{ℕ, suc, ◌&&◌, Bool, is_some, if◌then◌else◌, Option, None, Some, List, [], ◌∷◌, codes}
use Rattle.std.specs.List.{find}
use Rattle.ir_module.specs.declared.tree.Attr.{Attr}
use Rattle.ir_module.specs.declared.tree.Function.{Function}
use Rattle.ir_module.specs.declared.tree.Module.{Module}
use Rattle.ir_values.specs.Calls.{same_text}

-- the first attribute with the key
abbrev pub attribute_of : List ℕ → List Attr → Option Attr
attribute_of key attrs = find (λ a. same_text a.key key) attrs

abbrev pub has_attribute : List ℕ → List Attr → Bool
has_attribute key attrs = is_some (attribute_of key attrs)

abbrev pub is_entry : Function → Bool
is_entry f = is_some f.blocks && has_attribute (codes "entry_point") f.attrs

-- a function and its number
pub record Entry : Type 0 where
  pub number : ℕ
  pub function : Function

abbrev pub entry_from : ℕ → List Function → Option Entry
entry_from n [] = None
entry_from n (f ∷ fs) = if is_entry f then Some (record { number = n; function = f }) else entry_from (suc n) fs

unfoldable pub entry_of : Module → Option Entry
entry_of m = entry_from 0 m.funcs
