-- The lines of shots (QIR specification, 'Output Schemas').
use Rattle.std.specs.Prelude.{ℕ, Option, None, Some, List, [], ◌∷◌, ◌++◌, codes, map, slice_get}
use Rattle.std.specs.Fmt.{signed_decimal}
use Rattle.ir_module.specs.declared.tree.Attr.{Attr}
use Rattle.ir_module.specs.declared.tree.Constant.{Constant}
use Rattle.ir_module.specs.declared.tree.Function.{Function}
use Rattle.ir_module.specs.declared.tree.Module.{Module}
use Rattle.ir_values.specs.Bytes.{tab}
use Rattle.ir_values.specs.declared.cause.Cause.{Cause}
use Rattle.ir_values.specs.declared.cause.Cause.TheVariants as cause
use Rattle.ir_values.specs.declared.ids.GlobalId.{GlobalId}
use Rattle.output_records.specs.declared.record.Record.{Record}
use Rattle.output_records.specs.declared.record.Shown.{Shown}
use Rattle.output_records.specs.declared.record.Shown.TheVariants as shown
use Rattle.output_lines.specs.declared.last.Last.{Last}
use Rattle.output_lines.specs.declared.last.Last.TheVariants as last
use Rattle.output_lines.specs.declared.last.Schema.{Schema}
use Rattle.output_lines.specs.declared.last.Schema.TheVariants as schema
use Rattle.output_lines.specs.declared.last.StopName.{StopName}
use Rattle.output_lines.specs.declared.last.StopName.TheVariants as stop
use Rattle.output_lines.specs.Fields.{escaped, before_zero, digit, word}

abbrev pub schema_name : Schema → List ℕ
schema_name schema.Labeled = codes "labeled"
schema_name schema.Ordered = codes "ordered"

abbrev pub schema_line : Schema → List ℕ
schema_line s = codes "HEADER\tschema_id\t" ++ schema_name s ++ codes "\n"

abbrev pub version_line : List ℕ
version_line = codes "HEADER\tschema_version\t1.0\n"

-- the lines before all shots
abbrev pub head_lines : Schema → List (List ℕ)
head_lines s = schema_line s ∷ version_line ∷ []

abbrev pub value_field : Option (List ℕ) → List ℕ
value_field None = []
value_field (Some value) = tab ∷ escaped value

-- an attribute of the entry
abbrev pub metadata_line : Attr → List ℕ
metadata_line a = codes "METADATA\t" ++ escaped a.key ++ value_field a.value ++ codes "\n"

abbrev pub shown_text : Shown → List ℕ
shown_text (shown.Tuple count) = codes "TUPLE\t" ++ signed_decimal count
shown_text (shown.Array count) = codes "ARRAY\t" ++ signed_decimal count
shown_text (shown.Res bit) = codes "RESULT\t" ++ digit bit
shown_text (shown.Bool truth) = codes "BOOL\t" ++ word truth
shown_text (shown.Int number) = codes "INT\t" ++ signed_decimal number
shown_text (shown.Double spelling) = codes "DOUBLE\t" ++ spelling

abbrev pub label_text : Option Constant → List ℕ
label_text None = []
label_text (Some constant) = escaped (before_zero constant.bytes)

-- a label's field has the bytes of its constant before the first zero byte
abbrev pub constant_field : List Constant → GlobalId → List ℕ
constant_field constants g = tab ∷ label_text (slice_get constants g.0)

-- the labeled schema alone has labels, and the null label has no field
abbrev pub label_field : Schema → List Constant → Option GlobalId → List ℕ
label_field schema.Labeled constants (Some g) = constant_field constants g
label_field schema.Labeled constants None = []
label_field schema.Ordered constants label = []

-- a record
abbrev pub output_line : Schema → List Constant → Record → List ℕ
output_line s constants r = codes "OUTPUT\t" ++ shown_text r.shown ++ label_field s constants r.label ++ codes "\n"

abbrev pub cause_name : Cause → List ℕ
cause_name cause.DivZero = codes "DivZero"
cause_name cause.Overflow = codes "Overflow"
cause_name cause.Poison = codes "Poison"
cause_name cause.ReadUnset = codes "ReadUnset"
cause_name cause.Released = codes "Released"
cause_name cause.BadRelease = codes "BadRelease"
cause_name cause.ConstResult = codes "ConstResult"
cause_name cause.Unbound = codes "Unbound"

abbrev pub stop_name : StopName → List ℕ
stop_name (stop.Trap why) = cause_name why
stop_name stop.Unsupported = codes "Unsupported"
stop_name stop.Empty = codes "Empty"
stop_name stop.Failed = codes "Failed"
stop_name stop.Cut = codes "Cut"

-- how a shot ended
abbrev pub last_line : Last → List ℕ
last_line (last.Code code) = codes "END\t" ++ signed_decimal code ++ codes "\n"
last_line (last.Stop name) = codes "STOP\t" ++ stop_name name ++ codes "\n"

abbrev pub last_lines : Last → List (List ℕ)
last_lines l = last_line l ∷ []

-- the lines of a shot of the module whose entry this function is
abbrev pub shot_lines : Schema → Module → Function → List Record → Last → List (List ℕ)
shot_lines s m f rs l = codes "START\n" ∷ (map metadata_line f.attrs ++ (map (output_line s m.globals) rs ++ last_lines l))
