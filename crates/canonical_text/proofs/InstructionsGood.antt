-- The parts of phis, instructions and terminators stand apart.
use Rattle.std.proofs.Common.{◌≡◌, ℕ, Bool, true, false, Option, None, Some, List, [], ◌∷◌, ◌++◌, length, refl, sym, ap, subst, ◌∙◌}
use Rattle.std.specs.Prelude.{◌&&◌, nat_lt, codes, map, slice_get}
use Rattle.std.specs.List.{list_all}
use Rattle.std.proofs.lemmas.Bool.{and_parts, ltb-true, false≢true}
use Rattle.ir_values.specs.Int.{IntValue}
use Rattle.ir_values.specs.declared.ids.BlockId.{BlockId}
use Rattle.ir_values.specs.declared.ids.LocalId.{LocalId}
use Rattle.ir_values.specs.declared.int.BinOp.{BinOp}
use Rattle.ir_values.specs.declared.int.BinOp.TheVariants as op
use Rattle.ir_values.specs.declared.int.Conv.{Conv}
use Rattle.ir_values.specs.declared.int.Conv.TheVariants as conv
use Rattle.ir_values.specs.declared.int.Flags.{Flags}
use Rattle.ir_values.specs.declared.int.Pred.{Pred}
use Rattle.ir_values.specs.declared.int.Pred.TheVariants as pred
use Rattle.ir_values.specs.declared.name.Name.{Name}
use Rattle.ir_values.specs.declared.ty.Ty.{Ty}
use Rattle.ir_values.specs.declared.ty.Ty.TheVariants as ty
use Rattle.ir_text.specs.declared.tok.Tok.TheVariants.{Word}
use Rattle.ir_module.specs.Printable.{boolean, int_fits, operand_fits, value_type_fits, typed_fits, type_fits, kind_fits, term_fits, result_fits, has_entry, step_fits}
use Rattle.ir_module.specs.Numbered.{type_passes, local_type_passes}
use Rattle.ir_module.specs.Steps.{PhiAt, InstAt}
use Rattle.ir_module.specs.declared.tree.Callee.{Callee}
use Rattle.ir_module.specs.declared.tree.Callee.TheVariants as callee
use Rattle.ir_module.specs.declared.tree.Function.{Function}
use Rattle.ir_module.specs.declared.tree.Inst.{Inst}
use Rattle.ir_module.specs.declared.tree.InstKind.{InstKind}
use Rattle.ir_module.specs.declared.tree.InstKind.TheVariants as kind
use Rattle.ir_module.specs.declared.tree.Module.{Module}
use Rattle.ir_module.specs.declared.tree.Operand.{Operand}
use Rattle.ir_module.specs.declared.tree.Phi.{Phi}
use Rattle.ir_module.specs.declared.tree.Term.{Term}
use Rattle.ir_module.specs.declared.tree.Term.TheVariants as term
use Rattle.ir_parts.specs.Parts.{Part}
use Rattle.ir_parts.specs.Spaced.{is_written}
use Rattle.ir_printer.specs.Pieces.{blank, sign, word, comma, equals, listed}
use Rattle.ir_printer.specs.Types.{type_parts}
use Rattle.ir_printer.specs.Operands.{block_part, int_part, operand_parts, typed_parts}
use Rattle.ir_printer.specs.Instructions.{operation_word, predicate_word, conversion_word, flag_word, flags_parts, pair_parts, choices_parts, boolean_parts, callee_part, called_parts, argument_parts, arguments_parts, kind_parts, result_parts, inst_parts, type_of_local, entry_parts, entries_parts, phi_parts, target_parts, targets_parts, case_parts, cases_parts, table_parts, switched_parts, term_parts}
use Rattle.canonical_text.proofs.Facts.{IsThere, there}
use Rattle.canonical_text.proofs.Join.{Good, Safe, join, then_token, with_comma, listed_good, all_good}
use Rattle.canonical_text.proofs.TypesGood.{type_good}
use Rattle.canonical_text.proofs.OperandsGood.{Known, local_good, function_good, block_good, int_good, operand_good, typed_good}

-- ---- words

operation_written : (o : BinOp) → is_written Word (operation_word o) ≡ true
operation_written op.Add = refl
operation_written op.Sub = refl
operation_written op.Mul = refl
operation_written op.UDiv = refl
operation_written op.SDiv = refl
operation_written op.URem = refl
operation_written op.SRem = refl
operation_written op.Shl = refl
operation_written op.LShr = refl
operation_written op.AShr = refl
operation_written op.And = refl
operation_written op.Or = refl
operation_written op.Xor = refl

predicate_written : (p : Pred) → is_written Word (predicate_word p) ≡ true
predicate_written pred.Eq = refl
predicate_written pred.Ne = refl
predicate_written pred.Ugt = refl
predicate_written pred.Uge = refl
predicate_written pred.Ult = refl
predicate_written pred.Ule = refl
predicate_written pred.Sgt = refl
predicate_written pred.Sge = refl
predicate_written pred.Slt = refl
predicate_written pred.Sle = refl

conversion_written : (c : Conv) → is_written Word (conversion_word c) ≡ true
conversion_written conv.ZExt = refl
conversion_written conv.SExt = refl
conversion_written conv.Trunc = refl

flag_good : (b : Bool) (s : List ℕ) (ps : List Part) → is_written Word s ≡ true → Good ps → Good (flag_word b s ++ ps)
flag_good true s ps h k = then_token Word s (blank ∷ ps) h k
flag_good false s ps h k = k

append_assoc : (xs ys zs : List Part) → (xs ++ ys) ++ zs ≡ xs ++ (ys ++ zs)
append_assoc [] ys zs = refl
append_assoc (x ∷ xs) ys zs = ap (λ w. x ∷ w) (append_assoc xs ys zs)

flags_good : (flags : Flags) (ps : List Part) → Good ps → Good (flags_parts flags ++ ps)
flags_good flags ps h =
    let exact = flag_word flags.exact (codes "exact") in
    let nsw = flag_word flags.nsw (codes "nsw") in
    let nuw = flag_word flags.nuw (codes "nuw") in
    let whole : Good (nuw ++ (nsw ++ (exact ++ ps))) =
    flag_good flags.nuw (codes "nuw") (nsw ++ (exact ++ ps)) refl (flag_good flags.nsw (codes "nsw") (exact ++ ps) refl (flag_good flags.exact (codes "exact") ps refl h)) in
    let same : (nuw ++ (nsw ++ exact)) ++ ps ≡ nuw ++ (nsw ++ (exact ++ ps)) = append_assoc nuw (nsw ++ exact) ps ∙ ap (λ x. nuw ++ x) (append_assoc nsw exact ps) in
    subst Good (sym same) whole

-- ---- instructions

pair_good : (m : Module) (f : Function) (t : Ty) (a b : Operand) → Known m f → typed_fits (t, a) ≡ true → operand_fits t b ≡ true → Good (pair_parts m f t a b)
pair_good m f t a b k h i =
    with_comma (typed_parts m f t a) (operand_parts m f t b) (typed_good m f t a k (and_parts (value_type_fits t) (operand_fits t a) h).1) (operand_good m f t b k i)

choices_good : (m : Module) (f : Function) (t : Ty) (a : Operand) (u : Ty) (b : Operand) → Known m f → typed_fits (t, a) ≡ true → typed_fits (u, b) ≡ true → Good (choices_parts m f t a u b)
choices_good m f t a u b k h i =
    with_comma (typed_parts m f t a) (typed_parts m f u b)
    (typed_good m f t a k (and_parts (value_type_fits t) (operand_fits t a) h).1) (typed_good m f u b k (and_parts (value_type_fits u) (operand_fits u b) i).1)

callee_good : (m : Module) (f : Function) (g : Callee) (ps : List Part) → Known m f → Safe ps → Good (callee_part m f g ∷ ps)
callee_good m f (callee.Func g) ps k s = function_good m f g ps k s
callee_good m f (callee.Local x) ps k s = local_good m f x ps k s

argument_good : (m : Module) (f : Function) → Known m f → (a : Ty × Operand) → typed_fits a ≡ true → Good (argument_parts m f a)
argument_good m f k a h = typed_good m f a.0 a.1 k (and_parts (value_type_fits a.0) (operand_fits a.0 a.1) h).1

arguments_safe : (m : Module) (f : Function) (args : List (Ty × Operand)) → Known m f → list_all typed_fits args ≡ true → Safe (arguments_parts m f args)
arguments_safe m f args k h =
    let close = sign (codes ")") ∷ [] in
    let listed_args = listed (map (argument_parts m f) args) in
    let inside : Good (listed_args ++ close) =
    join false listed_args close (listed_good (map (argument_parts m f) args) (all_good (argument_parts m f) typed_fits args (argument_good m f k) h)) refl in
    inside

called_good : (m : Module) (f : Function) (ret : Ty) (g : Callee) → Known m f → Good (called_parts m f ret g)
called_good m f ret g k = join false (type_parts ret) (blank ∷ callee_part m f g ∷ []) (type_good ret) (callee_good m f g [] k refl)

kind_good : (m : Module) (f : Function) (i : InstKind) → Known m f → kind_fits i ≡ true → Good (kind_parts m f i)
kind_good m f (kind.Binary o flags t a b) k h =
    let p = and_parts (typed_fits (t, a)) (operand_fits t b) h in
    then_token Word (operation_word o) (blank ∷ (flags_parts flags ++ pair_parts m f t a b)) (operation_written o)
    (flags_good flags (pair_parts m f t a b) (pair_good m f t a b k p.0 p.1))
kind_good m f (kind.Icmp q t a b) k h =
    let p = and_parts (typed_fits (t, a)) (operand_fits t b) h in
    then_token Word (predicate_word q) (blank ∷ pair_parts m f t a b) (predicate_written q) (pair_good m f t a b k p.0 p.1)
kind_good m f (kind.Convert c t a to) k h =
    let p = and_parts (typed_fits (t, a)) (value_type_fits to) h in
    let rest = blank ∷ word (codes "to") ∷ blank ∷ type_parts to in
    then_token Word (conversion_word c) (blank ∷ (typed_parts m f t a ++ rest)) (conversion_written c)
    (join false (typed_parts m f t a) rest (typed_good m f t a k (and_parts (value_type_fits t) (operand_fits t a) p.0).1) (type_good to))
kind_good m f (kind.Select c t a u b) k h =
    let p = and_parts (operand_fits boolean c) (typed_fits (t, a) && typed_fits (u, b)) h in
    let q = and_parts (typed_fits (t, a)) (typed_fits (u, b)) p.1 in
    with_comma (boolean_parts m f c) (choices_parts m f t a u b) (typed_good m f boolean c k p.0) (choices_good m f t a u b k q.0 q.1)
kind_good m f (kind.Call ret g args) k h =
    let p = and_parts (type_fits ret) (list_all typed_fits args) h in
    join false (called_parts m f ret g) (arguments_parts m f args) (called_good m f ret g k) (arguments_safe m f args k p.1)

pub inst_good : (m : Module) (f : Function) (i : Inst) → Known m f → step_fits f (InstAt i) ≡ true → Good (inst_parts m f i)
inst_good m f i k h = result_good i.result (kind_good m f i.what k (and_parts (kind_fits i.what) (result_fits f i.what i.result) h).0)
  where
    result_good : (r : Option LocalId) → Good (kind_parts m f i.what) → Good (result_parts f r ++ kind_parts m f i.what)
    result_good None g = g
    result_good (Some x) g = local_good m f x (equals ++ kind_parts m f i.what) k g

-- ---- phis

entry_good : (m : Module) (f : Function) (t : Ty) → Known m f → (e : Operand × BlockId) → operand_fits t e.0 ≡ true → Good (entry_parts m f t e)
entry_good m f t k e h =
    let last = block_part f e.1 ∷ blank ∷ sign (codes "]") ∷ [] in
    with_comma (operand_parts m f t e.0) last (operand_good m f t e.0 k h) (block_good m f e.1 (blank ∷ sign (codes "]") ∷ []) k refl)

entries_good : (m : Module) (f : Function) (t : Ty) (es : List (Operand × BlockId)) → Known m f → list_all (λ e. operand_fits t e.0) es ≡ true → Good (entries_parts m f t es)
entries_good m f t es k h =
    let listed_entries = listed (map (entry_parts m f t) es) in
    join false (type_parts t) (blank ∷ listed_entries) (type_good t)
    (listed_good (map (entry_parts m f t) es) (all_good (entry_parts m f t) (λ e. operand_fits t e.0) es (entry_good m f t k) h))

abbrev fits_entries : List (Operand × BlockId) → Ty → Bool
fits_entries es t = value_type_fits t && list_all (λ e. operand_fits t e.0) es

typed_entries : (m : Module) (f : Function) (o : Option (Name × Ty)) (es : List (Operand × BlockId)) → Known m f → IsThere o → type_passes (fits_entries es) o ≡ true → Good (entries_parts m f (type_of_local o) es)
typed_entries m f None es k r h = absurd r
typed_entries m f (Some l) es k r h = entries_good m f l.1 es k (and_parts (value_type_fits l.1) (list_all (λ e. operand_fits l.1 e.0) es) h).1

pub phi_good : (m : Module) (f : Function) (phi : Phi) → Known m f → nat_lt phi.result.0 (length f.locals) ≡ true → step_fits f (PhiAt phi) ≡ true → Good (phi_parts m f phi)
phi_good m f phi k r h =
    let p = and_parts (has_entry phi.entries) (local_type_passes (fits_entries phi.entries) f phi.result) h in
    let o = slice_get f.locals phi.result.0 in
    let entries : Good (entries_parts m f (type_of_local o) phi.entries) = typed_entries m f o phi.entries k (there f.locals phi.result.0 (ltb-true phi.result.0 (length f.locals) r)) p.1 in
    local_good m f phi.result (equals ++ word (codes "phi") ∷ blank ∷ entries_parts m f (type_of_local o) phi.entries) k entries

-- ---- terminators

case_good : (m : Module) (f : Function) (c : IntValue × BlockId) (ps : List Part) → Known m f → int_fits c.0.width c.0 ≡ true → Safe ps → Good (case_parts f c ++ ps)
case_good m f c ps k h s =
    let t = type_parts (ty.Int c.0.width) in
    let behind = comma ++ word (codes "label") ∷ blank ∷ block_part f c.1 ∷ [] in
    let to : Good (block_part f c.1 ∷ ps) = block_good m f c.1 ps k s in
    let typed : Good (int_part c.0 ∷ (behind ++ ps)) = int_good c.0.width c.0 (behind ++ ps) h to in
    subst Good (sym (append_assoc t (blank ∷ int_part c.0 ∷ behind) ps)) (join false t (blank ∷ int_part c.0 ∷ (behind ++ ps)) (type_good (ty.Int c.0.width)) typed)

cases_good : (m : Module) (f : Function) (cs : List (IntValue × BlockId)) → Known m f → list_all (λ c. int_fits c.0.width c.0) cs ≡ true → Good (cases_parts f cs)
cases_good m f [] k h = refl
cases_good m f (c ∷ cs) k h =
    let p = and_parts (int_fits c.0.width c.0) (list_all (λ c. int_fits c.0.width c.0) cs) h in
    case_good m f c (blank ∷ cases_parts f cs) k p.0 (cases_good m f cs k p.1)

target_good : (m : Module) (f : Function) (b : BlockId) (ps : List Part) → Known m f → Safe ps → Good (target_parts f b ++ ps)
target_good m f b ps k h = block_good m f b ps k h

pub term_good : (m : Module) (f : Function) (t : Term) → Known m f → term_fits t ≡ true → Good (term_parts m f t)
term_good m f term.RetVoid k h = refl
term_good m f (term.Ret t a) k h = typed_good m f t a k (and_parts (value_type_fits t) (operand_fits t a) h).1
term_good m f (term.Br b) k h = target_good m f b [] k refl
term_good m f (term.CondBr c on_true on_false) k h =
    with_comma (boolean_parts m f c) (targets_parts f on_true on_false) (typed_good m f boolean c k h)
    (target_good m f on_true (comma ++ target_parts f on_false) k (target_good m f on_false [] k refl))
term_good m f (term.Switch (ty.Int w) a default cases) k h =
    let p = and_parts (operand_fits (ty.Int w) a) (list_all (λ c. int_fits c.0.width c.0) cases) h in
    let close = sign (codes "]") ∷ [] in
    let all = cases_parts f cases in
    let inside : Good (all ++ close) = join false all close (cases_good m f cases k p.1) refl in
    let switched : Good (switched_parts m f (ty.Int w) a default) =
    with_comma (typed_parts m f (ty.Int w) a) (target_parts f default) (typed_good m f (ty.Int w) a k p.0) (target_good m f default [] k refl) in
    join false (switched_parts m f (ty.Int w) a default) (blank ∷ table_parts f cases) switched inside
term_good m f (term.Switch ty.Void a default cases) k h = absurd (false≢true h)
term_good m f (term.Switch ty.Double a default cases) k h = absurd (false≢true h)
term_good m f (term.Switch ty.Qubit a default cases) k h = absurd (false≢true h)
term_good m f (term.Switch ty.Res a default cases) k h = absurd (false≢true h)
term_good m f (term.Switch ty.Text a default cases) k h = absurd (false≢true h)
term_good m f (term.Switch (ty.Func ws) a default cases) k h = absurd (false≢true h)
