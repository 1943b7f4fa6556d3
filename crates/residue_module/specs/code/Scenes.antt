-- The words that a printer knows.
use Rattle.std.specs.Prelude.{◌+◌, ◌<◌, ◌^◌, Bool, List, length}
use Rattle.std.specs.List.{list_all}
use Rattle.called_functions.specs.code.Tables.{function_named}
use Rattle.ir_values.specs.declared.ty.Ty.{Ty}
use Rattle.kept_items.specs.declared.val.Val.{Val}
use Rattle.residue.specs.declared.parts.Part.{Part}
use Rattle.residue.specs.Instructions.{Words}
use Rattle.residue.specs.Scopes.{item_uses, items_of, jump_args, tail_uses}
use Rattle.residue.specs.Valid.{number_small}
use Rattle.residue_module.specs.declared.printer.Printer.{Printer}
use Rattle.residue_module.specs.code.Names.{number_of}

abbrev pub at : Printer → Words
at p = record {
  qubits = p.qubits;
  results = p.results;
  name_of = number_of p.names.now;
  function = function_named p.functions.now.names.keys;
}

-- every number of a function is below 2 to the 32
abbrev pub HasFew : Printer → Type 0
HasFew p = length p.functions.now.names.keys + 1 < 2 ^ 32

-- ---- the printed numbers of these are below 2 to the 64

abbrev pub is_small : Words → Val → Bool
is_small ws a = number_small ws.qubits ws.results a

abbrev pub are_small : Words → List (Ty × Val) → Bool
are_small ws args = list_all (λ a. is_small ws a.1) args

abbrev pub items_small : Words → Part → Bool
items_small ws p = list_all (λ x. are_small ws (item_uses x)) (items_of p.lines)

abbrev pub tail_small : Words → Part → Bool
tail_small ws p = are_small ws (tail_uses p.tail)

abbrev pub args_small : Words → Part → Bool
args_small ws p = list_all (is_small ws) (jump_args p.tail)
