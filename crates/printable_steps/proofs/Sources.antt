-- What stands in a module that can be printed: constants of operands and cases can be printed.
use Rattle.std.proofs.Common.{◌≡◌, ℕ, ◌^◌, ◌<◌, Bool, true, ◌&&◌, Option, None, Some, List, [], ◌∷◌, ◌++◌, length, map, refl, sym, ap, ◌∙◌, arith}
use Rattle.std.proofs.lemmas.Bool.{and_from, and_parts}
use Rattle.std.proofs.lemmas.List.Folds.{list_all-append, list_all-map}
use Rattle.std.specs.List.{list_all}
use Rattle.std.specs.Prelude.{flat_map, nat_lt, slice_get}
use Rattle.ir_module.specs.declared.places.Point.{Point}
use Rattle.ir_module.specs.declared.tree.Block.{Block}
use Rattle.ir_module.specs.declared.tree.Callee.{Callee}
use Rattle.ir_module.specs.declared.tree.Callee.TheVariants as callee
use Rattle.ir_module.specs.declared.tree.Function.{Function}
use Rattle.ir_module.specs.declared.tree.InstKind.{InstKind}
use Rattle.ir_module.specs.declared.tree.InstKind.TheVariants as kind
use Rattle.ir_module.specs.declared.tree.Module.{Module}
use Rattle.ir_module.specs.declared.tree.Operand.{Operand}
use Rattle.ir_module.specs.declared.tree.Operand.TheVariants as operand
use Rattle.ir_module.specs.declared.tree.Phi.{Phi}
use Rattle.ir_module.specs.declared.tree.Term.{Term}
use Rattle.ir_module.specs.declared.tree.Term.TheVariants as term
use Rattle.ir_module.specs.Numbered.{all_steps, local_in_range, step_in_range, type_passes}
use Rattle.ir_module.specs.Operands.{callee_operand, operands_of, step_blocks, step_defines, term_operands}
use Rattle.ir_module.specs.Printable.{IsPrintable, are_bytes, has_entry, int_fits, kind_fits, name_fits, names_fit, operand_fits, result_fits, step_fits, term_fits, type_fits, typed_fits, value_type_fits}
use Rattle.ir_module.specs.Steps.{Step, PhiAt, InstAt, TermAt, NoStep, step_in_module, step_of_point, steps_of, steps_of_block}
use Rattle.ir_module.specs.Tree.{block_at, blocks_at, blocks_of, blocks_or_none}
use Rattle.ir_module.proofs.StepLemmas.{module-passes, passes-at}
use Rattle.ir_values.specs.declared.ids.BlockId.{BlockId}
use Rattle.ir_values.specs.declared.ids.FuncId.{FuncId}
use Rattle.ir_values.specs.declared.int.Width.TheVariants.{W1}
use Rattle.ir_values.specs.declared.name.Name.{Name}
use Rattle.ir_values.specs.declared.name.Name.TheVariants as name
use Rattle.ir_values.specs.declared.ty.Ty.{Ty}
use Rattle.ir_values.specs.declared.ty.Ty.TheVariants as ty
use Rattle.ir_values.specs.declared.value.Value.TheVariants as value
use Rattle.ir_values.specs.Int.{IntValue}
use Rattle.ir_values.specs.Names.{name_text}
use Rattle.qir_meaning.specs.Moves.{block_in, given}
use Rattle.printed_residue.proofs.Ends.{get-within}
use Rattle.printed_residue.proofs.Facts.{passes-piece}
use Rattle.static_steps.specs.Edges.{case_values}
use Rattle.printable_values.proofs.Integers.{constant-prints}
use Rattle.printable_values.specs.Values.{value_prints}
use Rattle.printable_steps.proofs.Names.{operand_prints}

-- ---- steps whose constants can be printed

abbrev pub cases_print : List (IntValue × BlockId) → Bool
cases_print cases = list_all (λ i. value_prints (value.Int i)) (case_values cases)

abbrev pub term_cases_print : Term → Bool
term_cases_print (term.Switch u a b cases) = cases_print cases
term_cases_print t = true

abbrev pub phi_prints : Phi → Bool
phi_prints phi = list_all (λ (e : Operand × BlockId). operand_prints e.0) phi.entries

abbrev pub step_prints : Step → Bool
step_prints (PhiAt phi) = phi_prints phi
step_prints (InstAt i) = list_all operand_prints (operands_of i.what)
step_prints (TermAt t) = list_all operand_prints (term_operands t) && term_cases_print t
step_prints NoStep = true

-- ---- one step

operand-prints : (u : Ty) (a : Operand) → operand_fits u a ≡ true → operand_prints a ≡ true
operand-prints u (operand.Const v) h = constant-prints u v h
operand-prints u (operand.Local x) h = refl

typed-prints : (u : Ty) (a : Operand) → typed_fits (u, a) ≡ true → operand_prints a ≡ true
typed-prints u a h = operand-prints u a (and_parts (value_type_fits u) (operand_fits u a) h).1

args-print : (args : List (Ty × Operand)) → list_all typed_fits args ≡ true → list_all operand_prints (map (λ a. a.1) args) ≡ true
args-print [] h = refl
args-print (a ∷ args) h =
    let p = and_parts (typed_fits a) (list_all typed_fits args) h in
    and_from (operand_prints a.1) (list_all operand_prints (map (λ a. a.1) args)) (typed-prints a.0 a.1 p.0) (args-print args p.1)

two : (a b : Operand) → operand_prints a ≡ true → operand_prints b ≡ true → (operand_prints a && (operand_prints b && true)) ≡ true
two a b h g = and_from (operand_prints a) (operand_prints b && true) h (ap (λ s. s && true) g)

kind-prints : (what : InstKind) → kind_fits what ≡ true → list_all operand_prints (operands_of what) ≡ true
kind-prints (kind.Binary o flags u a b) h =
    let p = and_parts (typed_fits (u, a)) (operand_fits u b) h in two a b (typed-prints u a p.0) (operand-prints u b p.1)
kind-prints (kind.Icmp o u a b) h =
    let p = and_parts (typed_fits (u, a)) (operand_fits u b) h in two a b (typed-prints u a p.0) (operand-prints u b p.1)
kind-prints (kind.Convert o u a to) h =
    let p = and_parts (typed_fits (u, a)) (value_type_fits to) h in ap (λ s. s && true) (typed-prints u a p.0)
kind-prints (kind.Select c u a w b) h =
    let p = and_parts (operand_fits (ty.Int W1) c) (typed_fits (u, a) && typed_fits (w, b)) h in
    let q = and_parts (typed_fits (u, a)) (typed_fits (w, b)) p.1 in
    and_from (operand_prints c) (operand_prints a && (operand_prints b && true)) (operand-prints (ty.Int W1) c p.0) (two a b (typed-prints u a q.0) (typed-prints w b q.1))
kind-prints (kind.Call ret f args) h = called f (args-print args (and_parts (type_fits ret) (list_all typed_fits args) h).1)
  where
    called : (f : Callee) → list_all operand_prints (map (λ a. a.1) args) ≡ true → (operand_prints (callee_operand f) && list_all operand_prints (map (λ a. a.1) args)) ≡ true
    called (callee.Func g) k = k
    called (callee.Local x) k = k

cases-print : (cases : List (IntValue × BlockId)) → list_all (λ c. int_fits c.0.width c.0) cases ≡ true → cases_print cases ≡ true
cases-print [] h = refl
cases-print (c ∷ cases) h =
    let p = and_parts (int_fits c.0.width c.0) (list_all (λ c. int_fits c.0.width c.0) cases) h in
    and_from (value_prints (value.Int c.0)) (cases_print cases) (constant-prints (ty.Int c.0.width) (value.Int c.0) p.0) (cases-print cases p.1)

term-prints : (t : Term) → term_fits t ≡ true → step_prints (TermAt t) ≡ true
term-prints term.RetVoid h = refl
term-prints (term.Ret u a) h = ap (λ s. (s && true) && true) (typed-prints u a h)
term-prints (term.Br b) h = refl
term-prints (term.CondBr c a b) h = ap (λ s. (s && true) && true) (operand-prints (ty.Int W1) c h)
term-prints (term.Switch (ty.Int w) a b cases) h =
    let p = and_parts (operand_fits (ty.Int w) a) (list_all (λ c. int_fits c.0.width c.0) cases) h in
    and_from (operand_prints a && true) (cases_print cases) (ap (λ s. s && true) (operand-prints (ty.Int w) a p.0)) (cases-print cases p.1)
term-prints (term.Switch u a b cases) h = cc

-- the local name that a phi defines is one of the function
phi-prints : (f : Function) (phi : Phi) → step_fits f (PhiAt phi) ≡ true → local_in_range f phi.result ≡ true → phi_prints phi ≡ true
phi-prints f phi h inside =
    let l = get-within f.locals phi.result.0 (less phi.result.0 (length f.locals) inside) in
    let u : Ty = l.0.1 in
    let p = and_parts (has_entry phi.entries) (type_passes (λ t. value_type_fits t && list_all (λ e. operand_fits t e.0) phi.entries) (slice_get f.locals phi.result.0)) h in
    let q : (value_type_fits u && list_all (λ e. operand_fits u e.0) phi.entries) ≡ true = sym (ap (type_passes (λ t. value_type_fits t && list_all (λ e. operand_fits t e.0) phi.entries)) l.1) ∙ p.1 in
    entries-print u phi.entries (and_parts (value_type_fits u) (list_all (λ e. operand_fits u e.0) phi.entries) q).1
  where
    less : (a b : ℕ) → nat_lt a b ≡ true → a < b
    less a b e = grind arith

    entries-print : (u : Ty) (es : List (Operand × BlockId)) → list_all (λ (e : Operand × BlockId). operand_fits u e.0) es ≡ true → list_all (λ (e : Operand × BlockId). operand_prints e.0) es ≡ true
    entries-print u [] h = refl
    entries-print u (e ∷ es) h =
        let p = and_parts (operand_fits u e.0) (list_all (λ (e : Operand × BlockId). operand_fits u e.0) es) h in
        and_from (operand_prints e.0) (list_all (λ (e : Operand × BlockId). operand_prints e.0) es) (operand-prints u e.0 p.0) (entries-print u es p.1)

one-step : (m : Module) (f : Function) (s : Step) → step_fits f s ≡ true → step_in_range m f s ≡ true → step_prints s ≡ true
one-step m f (PhiAt phi) h g =
    let p = and_parts _ (list_all (local_in_range f) (step_defines (PhiAt phi)) && list_all (λ b. nat_lt b.0 (length (blocks_of f))) (step_blocks (PhiAt phi))) g in
    let q = and_parts (list_all (local_in_range f) (phi.result ∷ [])) _ p.1 in
    phi-prints f phi h (and_parts (local_in_range f phi.result) true q.0).0
one-step m f (InstAt i) h g = kind-prints i.what (and_parts (kind_fits i.what) (result_fits f i.what i.result) h).0
one-step m f (TermAt t) h g = term-prints t h
one-step m f NoStep h g = refl

-- ---- all steps of a module

-- the step at a point of a function, if there is one
abbrev in_function : Option Function → Point → Step
in_function None p = NoStep
in_function (Some f) p = step_of_point f p

module _ (m : Module) (printable : IsPrintable m) where
  steps-print : all_steps (λ f s. step_prints s) m ≡ true
  steps-print = functions m.funcs printable.steps (and_parts _ (all_steps (step_in_range m) m) printable.numbered.in_range).1
    where
      steps : (f : Function) (ss : List Step) → list_all (step_fits f) ss ≡ true → list_all (step_in_range m f) ss ≡ true → list_all step_prints ss ≡ true
      steps f [] h g = refl
      steps f (s ∷ ss) h g =
          let p = and_parts (step_fits f s) (list_all (step_fits f) ss) h in
          let q = and_parts (step_in_range m f s) (list_all (step_in_range m f) ss) g in
          and_from (step_prints s) (list_all step_prints ss) (one-step m f s p.0 q.0) (steps f ss p.1 q.1)

      functions : (fs : List Function) → list_all (λ f. list_all (step_fits f) (steps_of f)) fs ≡ true → list_all (λ f. list_all (step_in_range m f) (steps_of f)) fs ≡ true → list_all (λ f. list_all step_prints (steps_of f)) fs ≡ true
      functions [] h g = refl
      functions (f ∷ fs) h g =
          let p = and_parts (list_all (step_fits f) (steps_of f)) (list_all (λ f. list_all (step_fits f) (steps_of f)) fs) h in
          let q = and_parts (list_all (step_in_range m f) (steps_of f)) (list_all (λ f. list_all (step_in_range m f) (steps_of f)) fs) g in
          and_from (list_all step_prints (steps_of f)) (list_all (λ f. list_all step_prints (steps_of f)) fs) (steps f (steps_of f) p.0 q.0) (functions fs p.1 q.1)

  -- the step at a point
  pub step-prints : (p : Point) → step_prints (step_in_module m p) ≡ true
  step-prints p = by (slice_get m.funcs p.func.0) refl
    where
      by : (o : Option Function) → slice_get m.funcs p.func.0 ≡ o → step_prints (in_function o p) ≡ true
      by None e = refl
      by (Some f) e = module-passes (λ f s. step_prints s) m p f steps-print refl e

  -- the phis of a block
  abbrev pub some_block_prints : Option Block → Bool
  some_block_prints None = true
  some_block_prints (Some b) = list_all phi_prints b.phis

  pub block-prints : (f : FuncId) (b : BlockId) → some_block_prints (block_in m f b) ≡ true
  block-prints f b = by-function (slice_get m.funcs f.0) refl
    where
      of-block : (bs : List Block) (o : Option Block) → slice_get bs b.0 ≡ o → list_all step_prints (flat_map steps_of_block bs) ≡ true → some_block_prints o ≡ true
      of-block bs None e h = refl
      of-block bs (Some c) e h =
          let p = passes-piece step_prints steps_of_block bs b.0 c h e in
          sym (list_all-map step_prints PhiAt c.phis) ∙ (and_parts (list_all step_prints (map PhiAt c.phis)) _ (sym (list_all-append step_prints (map PhiAt c.phis) (map InstAt c.insts ++ (TermAt c.term ∷ []))) ∙ p)).0

      of-blocks : (o : Option (List Block)) → list_all step_prints (flat_map steps_of_block (blocks_or_none o)) ≡ true → some_block_prints (blocks_at o b) ≡ true
      of-blocks None h = refl
      of-blocks (Some bs) h = of-block bs (slice_get bs b.0) refl h

      by-function : (o : Option Function) → slice_get m.funcs f.0 ≡ o → some_block_prints (given o (λ g. block_at g b)) ≡ true
      by-function None e = refl
      by-function (Some g) e = of-blocks g.blocks (passes-at (λ (g : Function). list_all step_prints (steps_of g)) m.funcs f.0 g steps-print e)

  -- the bytes of a function's name
  pub name-prints : (n : ℕ) (f : Function) → slice_get m.funcs n ≡ Some f → are_bytes (name_text f.name) ≡ true
  name-prints n f e =
      let p = passes-at (λ (f : Function). names_fit f && nat_lt f.params (2 ^ 32)) m.funcs n f printable.names e in
      let q = and_parts (names_fit f) (nat_lt f.params (2 ^ 32)) p in
      of-name f.name (and_parts (name_fits f.name) _ q.0).0
    where
      of-name : (x : Name) → name_fits x ≡ true → are_bytes (name_text x) ≡ true
      of-name (name.Text bytes) h = h
      of-name (name.Number k) h = refl
