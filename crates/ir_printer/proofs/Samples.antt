-- Texts of small modules.
use Rattle.std.proofs.Common.{◌≡◌, None, Some, [], ◌∷◌, ◌++◌, refl, ap, ◌∙◌, arith}
use Rattle.std.specs.Prelude.{codes, decimal}
use Rattle.std.proofs.lemmas.Fmt.{decimal_digit, decimal_step}
use Rattle.ir_values.specs.declared.int.Width.TheVariants.{W64}
use Rattle.ir_values.specs.declared.name.Name.TheVariants.{Text, Number}
use Rattle.ir_values.specs.declared.sig.TyWord.TheVariants as word
use Rattle.ir_values.specs.declared.ty.Ty.TheVariants as ty
use Rattle.ir_values.specs.declared.value.Value.TheVariants as value
use Rattle.ir_module.specs.declared.tree.Callee.TheVariants as callee
use Rattle.ir_module.specs.declared.tree.FlagPart.TheVariants as flagpart
use Rattle.ir_module.specs.declared.tree.FlagValue.TheVariants as flagvalue
use Rattle.ir_module.specs.declared.tree.Function.{Function}
use Rattle.ir_module.specs.declared.tree.InstKind.TheVariants as kind
use Rattle.ir_module.specs.declared.tree.Module.{Module}
use Rattle.ir_module.specs.declared.tree.Operand.TheVariants as operand
use Rattle.ir_module.specs.declared.tree.Term.TheVariants as term
use Rattle.ir_parts.specs.Parts.{text_of}
use Rattle.ir_printer.specs.Canonical.{canonical, type_lines, constant_begin, constant_value, constant_line}
use Rattle.ir_printer.specs.Groups.{group_begin}
use Rattle.ir_printer.specs.Metadata.{flags_begin, flags_line, flag_node, list_node, nodes_lines}
use Rattle.ir_printer.specs.Types.{type_parts}

pub empty_module_has_its_type_lines : canonical (record { globals = []; funcs = []; flags = [] }) ≡ codes "%Qubit = type opaque\n%Result = type opaque\n"
unfolding canonical type_lines
empty_module_has_its_type_lines = refl

abbrev flagged : Module
flagged = record {
  globals = [];
  funcs = [];
  flags = record { behaviour = 5; key = codes "int_computations"; value = flagvalue.List (flagpart.Text (codes "i64") ∷ []) } ∷ [];
}

thirty_two : decimal 32 ≡ codes "32"
thirty_two = decimal_step 32 (omega arith) (omega arith) ∙ ap (λ ds. ds ++ 50 ∷ []) (decimal_digit 3 (omega arith))

pub list_of_a_flag_is_a_node : canonical flagged ≡ codes "%Qubit = type opaque\n%Result = type opaque\n\n!llvm.module.flags = !{!0}\n\n!0 = !{i32 5, !\"int_computations\", !1}\n!1 = !{!\"i64\"}\n"
unfolding canonical type_lines flags_begin flags_line flag_node list_node nodes_lines
list_of_a_flag_is_a_node = rw (decimal_digit 0 (omega arith), decimal_digit 1 (omega arith), decimal_digit 5 (omega arith), thirty_two) refl

abbrev gate : Function
gate = record {
  name = Text (codes "__quantum__qis__h__body");
  ret = ty.Void;
  params = 1;
  locals = (Number 0, ty.Qubit) ∷ [];
  attrs = record { key = codes "k"; value = Some (codes "v") } ∷ [];
  blocks = None;
}

abbrev calling : Function
calling = record {
  name = Text (codes "main");
  ret = ty.Void;
  params = 0;
  locals = [];
  attrs = record { key = codes "k"; value = Some (codes "v") } ∷ [];
  blocks = Some (record {
    name = Text (codes "entry");
    phis = [];
    insts = record { result = None; what = kind.Call ty.Void (callee.Func (record { 0 = 1 })) ((ty.Qubit, operand.Const (value.Id 0)) ∷ []) } ∷ [];
    term = term.RetVoid;
  } ∷ []);
}

-- two functions share a group
pub equal_lists_are_one_group : canonical (record { globals = []; funcs = calling ∷ gate ∷ []; flags = [] }) ≡ codes "%Qubit = type opaque\n%Result = type opaque\n\ndefine void @main() #0 {\nentry:\n  call void @__quantum__qis__h__body(%Qubit* null)\n  ret void\n}\n\ndeclare void @__quantum__qis__h__body(%Qubit*) #0\n\nattributes #0 = { \"k\"=\"v\" }\n"
unfolding canonical type_lines group_begin
equal_lists_are_one_group = rw (decimal_digit 0 (omega arith)) refl

-- the name of digits alone stands in quotes, and so does no number
pub digits_stand_in_quotes : text_of (constant_line (record { name = Text (codes "1"); bytes = 0 ∷ 127 ∷ 34 ∷ [] })) ≡ codes "@\"1\" = internal constant [3 x i8] c\"\\00\\7F\\22\"\n"
unfolding constant_begin constant_value
digits_stand_in_quotes = rw (decimal_digit 3 (omega arith)) refl

pub pointer_types_nest : text_of (type_parts (ty.Func (word.Func 2 ∷ word.Func 0 ∷ word.Void ∷ word.Int W64 ∷ word.Func 1 ∷ word.Double ∷ word.Res ∷ []))) ≡ codes "void ()* (i64, double (%Result*)*)*"
pointer_types_nest = refl
