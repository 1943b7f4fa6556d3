-- Lines of every kind, as the checker computes them.
use Rattle.std.proofs.Common.{◌≡◌, [], ◌∷◌, true, false, refl}
use Rattle.std.specs.Fmt.{digits}
use Rattle.std.specs.Prelude.{None, Some, pos, negsuc, codes}
use Rattle.hex.proofs.OnLiterals.{hex_on_literals}
use Rattle.backend_api.specs.declared.operation.Answer.TheVariants as answer
use Rattle.backend_api.specs.declared.operation.Arg.TheVariants as arg
use Rattle.backend_api.specs.declared.operation.QubitRef.TheVariants as qubit
use Rattle.backend_api.specs.declared.operation.ResultRef.TheVariants as result
use Rattle.ir_values.specs.declared.cause.Cause.TheVariants as cause
use Rattle.ir_values.specs.declared.int.Width.TheVariants.{W1, W64}
use Rattle.ir_values.specs.declared.name.Name.TheVariants as name
use Rattle.output_records.specs.declared.record.Shown.TheVariants as shown
use Rattle.output_lines.specs.declared.last.Last.TheVariants as last
use Rattle.output_lines.specs.declared.last.Schema.TheVariants as schema
use Rattle.output_lines.specs.declared.last.StopName.TheVariants as stop
use Rattle.output_lines.specs.RecordLines.{head_lines, last_line, metadata_line, output_line}
use Rattle.output_lines.specs.TraceLines.{event_line}
use Rattle.output_lines.specs.Writing.{text_of}

head : text_of (head_lines schema.Ordered) ≡ codes "HEADER\tschema_id\tordered\nHEADER\tschema_version\t1.0\n"
head = refl

-- a label ends at a zero byte
labelled : output_line schema.Labeled ((record { name = name.Number 0; bytes = 114 ∷ 48 ∷ 0 ∷ 120 ∷ [] }) ∷ []) (record { shown = shown.Res true; label = Some (record { 0 = 0 }) }) ≡ codes "OUTPUT\tRESULT\t1\tr0\n"
labelled = refl

-- the null label has no field, and the ordered schema has no labels
no-label : output_line schema.Labeled [] (record { shown = shown.Int (negsuc 6); label = None }) ≡ codes "OUTPUT\tINT\t-7\n"
unfolding digits
no-label = refl

ordered : output_line schema.Ordered ((record { name = name.Number 0; bytes = 114 ∷ [] }) ∷ []) (record { shown = shown.Bool false; label = Some (record { 0 = 0 }) }) ≡ codes "OUTPUT\tBOOL\tfalse\n"
ordered = refl

-- a line feed and a backslash are escaped
escaped-key : metadata_line (record { key = 97 ∷ 10 ∷ []; value = Some (92 ∷ []) }) ≡ codes "METADATA\ta\\0A\t\\5C\n"
unfolding hex_on_literals
escaped-key = refl

stopped : last_line (last.Stop (stop.Trap cause.ReadUnset)) ≡ codes "STOP\tReadUnset\n"
stopped = refl

ended : last_line (last.Code (pos 0)) ≡ codes "END\t0\n"
unfolding digits
ended = refl

measured : event_line (record { op = record { name = codes "mz"; args = arg.Qubit (qubit.Alloc 2) ∷ arg.Res (result.Measured 0) ∷ [] }; answer = answer.Bit true }) ≡ codes "BIT\t1\tmz\ta2\tm0\n"
unfolding digits
measured = refl

done : event_line (record { op = record { name = codes "rz"; args = arg.Double (codes "0.5") ∷ arg.Int (record { width = W64; bits = 18446744073709551611 }) ∷ arg.Int (record { width = W1; bits = 1 }) ∷ arg.Qubit (qubit.Id 3) ∷ [] }; answer = answer.Done }) ≡ codes "GATE\trz\t0.5\ti64:-5\ti1:true\tq3\n"
unfolding digits
done = refl
