-- Each line ends in a line feed, so that the first of the lines are whole lines.
use Rattle.std.proofs.Common.{◌≡◌, inl, inr, ⊎_elim, ◌∙◌, ℕ, zero, suc, List, [], ◌∷◌, ◌++◌, length, take, drop, map, flat_map, codes, refl, sym, ap, append_assoc, append-nil}
use Rattle.std.specs.Fmt.{signed_decimal}
use Rattle.std.specs.Prelude.{⊤}
use Rattle.std.proofs.lemmas.Grind.{flat_map-append}
use Rattle.std.proofs.lemmas.List.{take-append-drop}
use Rattle.backend_api.specs.declared.operation.Event.{Event}
use Rattle.ir_module.specs.declared.tree.Attr.{Attr}
use Rattle.ir_module.specs.declared.tree.Constant.{Constant}
use Rattle.ir_module.specs.declared.tree.Function.{Function}
use Rattle.ir_module.specs.declared.tree.Module.{Module}
use Rattle.ir_values.specs.Bytes.{line_feed}
use Rattle.output_lines.specs.declared.last.Last.{Last}
use Rattle.output_lines.specs.declared.last.Last.TheVariants.{Code, Stop}
use Rattle.output_lines.specs.declared.last.Schema.{Schema}
use Rattle.output_lines.specs.RecordLines.{head_lines, label_field, last_line, metadata_line, output_line, schema_name, shown_text, stop_name, value_field}
use Rattle.output_lines.specs.Fields.{escaped}
use Rattle.output_lines.specs.TraceLines.{answer_text, argument_fields, event_line}
use Rattle.output_lines.specs.Writing.{text_of}
use Rattle.output_records.specs.declared.record.Record.{Record}
use Rattle.run_commands.specs.Shots.{AreWholeLines, run_lines, told_shot, told_trace}
use Rattle.shots.specs.Shots.{Shot}

pub record EndsLine (line : List ℕ) : Type 0 where
  pub front : List ℕ
  pub is : line ≡ front ++ line_feed ∷ []

behind : (a b : List ℕ) → EndsLine b → EndsLine (a ++ b)
behind a b h = record { front = a ++ h.front; is = ap (λ l. a ++ l) h.is ∙ sym (append_assoc a h.front (line_feed ∷ [])) }

line-end : EndsLine (codes "\n")
line-end = record { front = []; is = refl }

abbrev pub AllEnd : List (List ℕ) → Type 0
AllEnd [] = ⊤
AllEnd (l ∷ ls) = EndsLine l × AllEnd ls

all-behind : (xs ys : List (List ℕ)) → AllEnd xs → AllEnd ys → AllEnd (xs ++ ys)
all-behind [] ys a b = b
all-behind (x ∷ xs) ys a b = (a.0, all-behind xs ys a.1 b)

all-mapped : {A : Type 0} (f : A → List ℕ) → ((x : A) → EndsLine (f x)) → (xs : List A) → AllEnd (map f xs)
all-mapped f each [] = tt
all-mapped f each (x ∷ xs) = (each x, all-mapped f each xs)

all-told : {A : Type 0} (f : A → List (List ℕ)) → ((x : A) → AllEnd (f x)) → (xs : List A) → AllEnd (flat_map f xs)
all-told f each [] = tt
all-told f each (x ∷ xs) = all-behind (f x) (flat_map f xs) (each x) (all-told f each xs)

-- ---- the lines of shots

last-ends : (l : Last) → EndsLine (last_line l)
last-ends (Code code) = behind (codes "END\t" ++ signed_decimal code) (codes "\n") line-end
last-ends (Stop why) = behind (codes "STOP\t" ++ stop_name why) (codes "\n") line-end

metadata-ends : (a : Attr) → EndsLine (metadata_line a)
metadata-ends a = behind (codes "METADATA\t" ++ escaped a.key ++ value_field a.value) (codes "\n") line-end

output-ends : (s : Schema) (cs : List Constant) (r : Record) → EndsLine (output_line s cs r)
output-ends s cs r = behind (codes "OUTPUT\t" ++ shown_text r.shown ++ label_field s cs r.label) (codes "\n") line-end

event-ends : (e : Event) → EndsLine (event_line e)
event-ends e = behind (answer_text e.answer ++ e.op.name ++ argument_fields e.op.args) (codes "\n") line-end

shot-ends : (schema : Schema) (m : Module) (f : Function) (s : Shot) → AllEnd (told_shot schema m f s)
shot-ends schema m f s = (
  record { front = codes "START"; is = refl },
  all-behind (map metadata_line f.attrs) _ (all-mapped metadata_line metadata-ends f.attrs)
      (all-behind (map (output_line schema m.globals) s.records) _ (all-mapped (output_line schema m.globals) (output-ends schema m.globals) s.records) (last-ends s.last, tt)),
)

pub trace-ends : (s : Shot) → AllEnd (told_trace s)
trace-ends s = all-behind (map event_line s.events) _ (all-mapped event_line event-ends s.events) (last-ends s.last, tt)

pub traces-end : (ss : List Shot) → AllEnd (flat_map told_trace ss)
traces-end ss = all-told told_trace trace-ends ss

pub runs-end : (schema : Schema) (m : Module) (f : Function) (ss : List Shot) → AllEnd (run_lines schema m f ss)
runs-end schema m f ss =
    all-behind (head_lines schema) _ (behind (codes "HEADER\tschema_id\t" ++ schema_name schema) (codes "\n") line-end, (record { front = codes "HEADER\tschema_version\t1.0"; is = refl }, tt))
    (all-told (told_shot schema m f) (shot-ends schema m f) ss)

-- ---- the first of the lines

one-more : (l : List ℕ) (rest : List ℕ) → EndsLine l → AreWholeLines rest → AreWholeLines (l ++ rest)
one-more l rest h w =
    ⊎_elim (λ (e : rest ≡ []). inr (h.front, ap (λ r. l ++ r) e ∙ append-nil l ∙ h.is))
    (λ (e : (front : List ℕ) × (rest ≡ front ++ line_feed ∷ [])). inr (l ++ e.0, ap (λ r. l ++ r) e.1 ∙ sym (append_assoc l e.0 (line_feed ∷ [])))) w

pub first-whole : (lines : List (List ℕ)) (k : ℕ) → AllEnd lines → AreWholeLines (text_of (take k lines))
first-whole lines zero h = inl refl
first-whole [] (suc k) h = inl refl
first-whole (l ∷ ls) (suc k) h = one-more l (text_of (take k ls)) h.0 (first-whole ls k h.1)

front-taken : (xs ys : List ℕ) → take (length xs) (xs ++ ys) ≡ xs
front-taken [] ys = refl
front-taken (x ∷ xs) ys = ap (λ l. x ∷ l) (front-taken xs ys)

-- the text of the first lines is the first bytes of the text
pub first-bytes : (lines : List (List ℕ)) (k : ℕ) → take (length (text_of (take k lines))) (text_of lines) ≡ text_of (take k lines)
first-bytes lines k =
    let e : text_of lines ≡ text_of (take k lines) ++ text_of (drop k lines) = ap text_of (sym (take-append-drop k lines)) ∙ flat_map-append (λ line. line) (take k lines) (drop k lines) in
    ap (take (length (text_of (take k lines)))) e ∙ front-taken (text_of (take k lines)) (text_of (drop k lines))
