-- Functions: their steps, names, types and attributes.
use Rattle.std.specs.Prelude.{nat_le, is_none, flat_map}
use Rattle.std.specs.Option.{option_map}
use Rattle.std.proofs.Common.{◌≡◌, ℕ, ◌+◌, ◌^◌, ◌<◌, true, not, ◌||◌, Option, None, Some, List, [], ◌∷◌, ◌++◌, length, map, refl, sym, ap, ◌∙◌, subst, arith}
use Rattle.std.specs.List.{list_all}
use Rattle.std.proofs.lemmas.Bool.{and_from, eq-eqb, le-leb}
use Rattle.std.proofs.lemmas.List.{append-nil, length-append, length-map, take_at, map-append}
use Rattle.ir_values.specs.declared.name.Name.{Name}
use Rattle.ir_values.specs.declared.ty.Ty.{Ty}
use Rattle.ir_module.specs.declared.tree.Attr.{Attr}
use Rattle.ir_module.specs.declared.tree.Block.{Block}
use Rattle.ir_module.specs.declared.tree.Function.{Function}
use Rattle.ir_module.specs.declared.tree.Module.{Module}
use Rattle.ir_module.specs.Classes.{parameter_types}
use Rattle.ir_module.specs.Numbered.{are_distinct, local_names, defined_once, results_of, has_block, is_void}
use Rattle.ir_module.specs.Printable.{name_fits, are_bytes, type_fits, names_fit, in_text_order, declaration_fits, value_fits, attr_fits}
use Rattle.ir_module.specs.Steps.{steps_of}
use Rattle.ir_module.specs.Tree.{blocks_of}
use Rattle.ir_tokens.specs.declared.token.Token.{Token}
use Rattle.ir_grammar.specs.declared.tree.AttrSyntax.{AttrSyntax}
use Rattle.ir_grammar.specs.declared.tree.AttrSyntax.TheVariants as syntax_attr
use Rattle.ir_grammar.specs.declared.tree.BlockSyntax.{BlockSyntax}
use Rattle.ir_grammar.specs.declared.tree.FunctionSyntax.{FunctionSyntax}
use Rattle.ir_grammar.specs.declared.tree.ItemSyntax.{ItemSyntax}
use Rattle.ir_grammar.specs.declared.tree.ItemSyntax.TheVariants as item_tree
use Rattle.ir_grammar.specs.declared.tree.LineSyntax.{LineSyntax}
use Rattle.ir_grammar.specs.declared.tree.ParamSyntax.{ParamSyntax}
use Rattle.ir_names.specs.Blocks.{blocks_of as blocks_named, behind_block}
use Rattle.ir_names.specs.code.Names.{same_name as equal_names}
use Rattle.ir_names.specs.Functions.{behind_params, params_locals, result_locals, line_locals, phi_local, block_locals, body_locals, body_labels, inside, attr_of, attrs_in, group_attrs, params_faults, function_faults, function_of}
use Rattle.ir_names.specs.Instructions.{group_faults}
use Rattle.ir_names.specs.Sense.{Sense, number_of, item_at}
use Rattle.read_modules.proofs.Each.{Each, Any, Each-append, Each-map, Each-flat, Each-filter, Each-always, Each-weaker, list_all-each, none_left, none_right}
use Rattle.read_modules.proofs.Scene.{Fair}
use Rattle.read_modules.proofs.Distinct.{Definition, AllNew, AllNew-append, ones, others, ones-append, others-append, distinct_names}
use Rattle.read_modules.proofs.Counting.{counted_once, counted_up, rest_is, found_below}
use Rattle.read_modules.proofs.KeptInstructions.{not_false, WhatKept}
use Rattle.read_modules.proofs.KeptBlocks.{PhiKept, LineKept, BlockKept}
use Rattle.read_modules.proofs.KeptItems.{ParamKept, BodyKept, FunctionKept}
use Rattle.read_modules.proofs.RightSteps.{RightStep, Counts, blocks_right}
use Rattle.read_modules.proofs.FunctionParts.{length-params, params_types, behind_all, name_or_fits, params_names, nameless_numbered, params_definitions, params_new, params_ones, params_others, body_definitions, body_ones, body_others, body_new, labels_are}

-- what names stand for outside of functions
pub record FairOutside (spelling : Token → List ℕ) (m : Module) (g : Sense) : Type 0 where
  pub spelled : (t : Token) → g.spelling t ≡ spelling t
  pub constants : (n : Name) (k : ℕ) → g.constant n ≡ Some k → k < length m.globals
  pub functions : (n : Name) (k : ℕ) → g.function n ≡ Some k → k < length m.funcs
  pub names : (t : Token) → name_fits (g.name t) ≡ true
  pub strings : (t : Token) → are_bytes (g.string t) ≡ true

-- What is right of a function.
pub record RightFunction (m : Module) (f : Function) : Type 0 where
  pub parameters_first : nat_le f.params (length f.locals) ≡ true
  pub steps : Each (RightStep m f) (steps_of f)
  pub distinct : are_distinct (local_names f) ≡ true
  pub once : defined_once f 0 (length f.locals) ≡ true
  pub ordered : in_text_order f ≡ true
  pub body : has_block f.blocks ≡ true
  pub parameters : list_all (λ t. not (is_void t)) (parameter_types f) ≡ true
  pub ret : type_fits f.ret ≡ true
  pub locals : Each (λ l. type_fits l.1 ≡ true) f.locals
  pub declared : (not (is_none f.blocks) || declaration_fits f) ≡ true
  pub names : names_fit f ≡ true
  pub attributes : list_all attr_fits f.attrs ≡ true

-- Types of locals.

line_types : (spelling : Token → List ℕ) (name : Token → Name) (l : LineSyntax) (o : Option Token) → WhatKept spelling l.what → Each (λ x. type_fits x.1 ≡ true) (result_locals name l.what o)
line_types spelling name l None h = tt
line_types spelling name l (Some t) h = (h.fits, tt)

block_types : (spelling : Token → List ℕ) (name : Token → Name) (k : BlockSyntax) → BlockKept spelling k → Each (λ x. type_fits x.1 ≡ true) (block_locals name k)
block_types spelling name k h = Each-append _ (map (phi_local name) k.lines.phis) _
    (Each-map _ (phi_local name) k.lines.phis (Each-weaker (PhiKept spelling) _ (λ p q. q.type.fits) k.lines.phis h.lines.phis))
    (Each-flat _ (line_locals name) k.lines.insts (Each-weaker (LineKept spelling) _ (λ l q. line_types spelling name l l.result q.what) k.lines.insts h.lines.insts))

body_types : (spelling : Token → List ℕ) (name : Token → Name) (ps : List ParamSyntax) (o : Option (List BlockSyntax)) → BodyKept spelling ps o → Each (λ x. type_fits x.1 ≡ true) (body_locals name o)
body_types spelling name ps None h = tt
body_types spelling name ps (Some ks) h = Each-flat _ (block_locals name) ks (Each-weaker (BlockKept spelling) _ (λ k q. block_types spelling name k q) ks h.1)

-- Names of locals.

line_names : (name : Token → Name) → ((t : Token) → name_fits (name t) ≡ true) → (l : LineSyntax) (o : Option Token) → Each (λ x. name_fits x.0 ≡ true) (result_locals name l.what o)
line_names name h l None = tt
line_names name h l (Some t) = (h t, tt)

body_names : (name : Token → Name) → ((t : Token) → name_fits (name t) ≡ true) → (o : Option (List BlockSyntax)) → Each (λ x. name_fits x.0 ≡ true) (body_locals name o)
body_names name h None = tt
body_names name h (Some ks) = Each-flat _ (block_locals name) ks (Each-always _ (λ k. Each-append _ (map (phi_local name) k.lines.phis) _
    (Each-map _ (phi_local name) k.lines.phis (Each-always _ (λ p. h p.result) k.lines.phis))
    (Each-flat _ (line_locals name) k.lines.insts (Each-always _ (λ l. line_names name h l l.result) k.lines.insts))) ks)

labels_fit : (s : Sense) → ((t : Token) → name_fits (s.name t) ≡ true) → (unnamed v : ℕ) (ks : List BlockSyntax) → unnamed < 2 ^ 32 → Each (λ b. name_fits b.name ≡ true) (blocks_named s unnamed v ks)
labels_fit s h unnamed v [] l = tt
labels_fit s h unnamed v (k ∷ ks) l = (name_or_fits s.name h unnamed k.label l, labels_fit s h unnamed (behind_block v k) ks l)

-- Attributes.

value_right : (string : Token → List ℕ) → ((t : Token) → are_bytes (string t) ≡ true) → (o : Option Token) → value_fits (option_map string o) ≡ true
value_right string h None = refl
value_right string h (Some t) = h t

attr_right : (s : Sense) → ((t : Token) → are_bytes (s.string t) ≡ true) → (a : AttrSyntax) → Any (λ x. attr_fits x ≡ true) (attr_of s a)
attr_right s h (syntax_attr.Text key value) = and_from _ _ (h key) (value_right s.string h value)
attr_right s h syntax_attr.Word = tt

attrs_right : (s : Sense) → ((t : Token) → are_bytes (s.string t) ≡ true) → (o : Option ItemSyntax) → Each (λ x. attr_fits x ≡ true) (attrs_in s o)
attrs_right s h (Some (item_tree.Group t attrs)) = Each-filter _ (attr_of s) attrs (Each-always _ (attr_right s h) attrs)
attrs_right s h (Some item_tree.Aside) = tt
attrs_right s h (Some (item_tree.Constant t bytes)) = tt
attrs_right s h (Some (item_tree.Function f)) = tt
attrs_right s h (Some (item_tree.List t ns)) = tt
attrs_right s h (Some (item_tree.Node t es)) = tt
attrs_right s h None = tt

-- The function of a tree.

abbrev with_body : FunctionSyntax → Option (List BlockSyntax) → FunctionSyntax
with_body f o = record f { blocks = o }

module _ {spelling : Token → List ℕ} (m : Module) (g : Sense) (outside : FairOutside spelling m g) (f : FunctionSyntax) (few : length f.params < 2 ^ 32) where
  -- the function with this body
  abbrev made : Option (List BlockSyntax) → Function
  made o = function_of g (with_body f o)

  abbrev scene : Option (List BlockSyntax) → Sense
  scene o = inside g (with_body f o)

  abbrev unnamed_params : ℕ
  unnamed_params = behind_params 0 f.params

  few_unnamed : unnamed_params < 2 ^ 32
  few_unnamed = let b = behind_all 0 f.params in omega arith

  labels_made : (o : Option (List BlockSyntax)) → map (λ b. b.name) (blocks_of (made o)) ≡ body_labels g.name unnamed_params o
  labels_made None = refl
  labels_made (Some ks) = labels_are (scene (Some ks)) unnamed_params (length f.params) ks

  fair : (o : Option (List BlockSyntax)) → Fair spelling m (made o) (scene o)
  fair o = record {
    spelled = outside.spelled;
    constants = outside.constants;
    functions = outside.functions;
    values = λ n k e.
        let b = found_below (equal_names n) 0 (map (λ x. x.0) (made o).locals) k e in
        let l = length-map (made o).locals (λ x. x.0) in omega arith;
    labels = λ n k e.
        let b = found_below (equal_names n) 0 (body_labels g.name unnamed_params o) k e in
        let l = length-map (blocks_of (made o)) (λ x. x.name) in
        let c = ap length (labels_made o) in omega arith;
  }

  definitions : Option (List BlockSyntax) → List Definition
  definitions o = params_definitions g.name 0 f.params ++ body_definitions g.name unnamed_params o

  ones_are : (o : Option (List BlockSyntax)) → ones (definitions o) ≡ map (λ l. l.0) (made o).locals
  unfolding definitions
  ones_are o =
      ones-append (params_definitions g.name 0 f.params) (body_definitions g.name unnamed_params o)
      ∙ (ap (λ a. a ++ ones (body_definitions g.name unnamed_params o)) (params_ones g.name 0 f.params)
      ∙ (ap (λ b. map (λ l. l.0) (params_locals g.name 0 f.params) ++ b) (body_ones g.name unnamed_params o)
      ∙ sym (map-append (λ l. l.0) (params_locals g.name 0 f.params) (body_locals g.name o))))

  others_are : (o : Option (List BlockSyntax)) → others (definitions o) ≡ body_labels g.name unnamed_params o
  unfolding definitions
  others_are o =
      others-append (params_definitions g.name 0 f.params) (body_definitions g.name unnamed_params o)
      ∙ (ap (λ a. a ++ others (body_definitions g.name unnamed_params o)) (params_others g.name 0 f.params) ∙ body_others g.name unnamed_params o)

  all_new : (o : Option (List BlockSyntax)) → function_faults g (with_body f o) ≡ [] → (w c : ℕ) × AllNew (scene o).value (scene o).label 0 0 (definitions o) w c
  unfolding definitions
  all_new o e =
      let s = scene o in
      let inner = none_right (flat_map (group_faults s) f.groups) _ (none_right (params_faults s 0 0 f.params) _ e) in
      let more = body_new s unnamed_params (length f.params) o inner in
      (more.0, more.1, AllNew-append s.value s.label 0 0 (params_definitions g.name 0 f.params) (length f.params) 0 _ more.0 more.1 (params_new s 0 0 (length f.params) f.params (omega arith) (none_left _ _ e)) more.2)

  distinct_right : (o : Option (List BlockSyntax)) → function_faults g (with_body f o) ≡ [] → are_distinct (local_names (made o)) ≡ true
  distinct_right o e =
      let n = all_new o e in
      let ds = definitions o in
      let k = subst (λ xs. AllNew (number_of equal_names xs) (scene o).label 0 0 ds n.0 n.1) (sym (ones_are o)) n.2 in
      let l = subst (λ xs. AllNew (number_of equal_names (ones ds)) (number_of equal_names xs) 0 0 ds n.0 n.1) (sym (others_are o)) k in
      let d = distinct_names ds n.0 n.1 l in
      let a = subst (λ xs. are_distinct (xs ++ others ds) ≡ true) (ones_are o) d in
      subst (λ xs. are_distinct (map (λ l. l.0) (made o).locals ++ xs) ≡ true) (others_are o ∙ sym (labels_made o)) a

  -- the body: its steps, and what they define
  record RightBody (o : Option (List BlockSyntax)) : Type 0 where
    steps : Each (RightStep m (made o)) (steps_of (made o))
    counts : Counts (length f.params) (results_of (made o)) (length (made o).locals)
    body : has_block (made o).blocks ≡ true
    declared : (not (is_none (made o).blocks) || declaration_fits (made o)) ≡ true
    labels : list_all (λ b. name_fits b.name) (blocks_of (made o)) ≡ true

  body_right : (o : Option (List BlockSyntax)) → BodyKept spelling f.params o → function_faults g (with_body f o) ≡ [] → RightBody o
  body_right None h e =
      let l : length f.params ≡ length (params_locals g.name 0 f.params ++ []) = sym (ap length (append-nil (params_locals g.name 0 f.params)) ∙ length-params g.name 0 f.params) in
      record {
        steps = tt;
        counts = l;
        body = refl;
        declared = and_from _ _ (eq-eqb _ _ l) (nameless_numbered g.name 0 f.params h);
        labels = refl;
      }
  body_right (Some []) h e = absurd h.0
  body_right (Some (k ∷ ks)) h e =
      let s = scene (Some (k ∷ ks)) in
      let inner = none_right (flat_map (group_faults s) f.groups) _ (none_right (params_faults s 0 0 f.params) _ e) in
      let rest = rest_is (made (Some (k ∷ ks))).locals (params_locals g.name 0 f.params) (body_locals g.name (Some (k ∷ ks))) (length f.params) refl (sym (length-params g.name 0 f.params)) in
      let r = blocks_right m (made (Some (k ∷ ks))) s (fair (Some (k ∷ ks))) unnamed_params (length f.params) 0 (k ∷ ks) h.1 inner rest in
      record {
        steps = r.0;
        counts = r.1;
        body = refl;
        declared = refl;
        labels = list_all-each {A = Block} (λ b. name_fits b.name) (blocks_named s unnamed_params (length f.params) (k ∷ ks)) (labels_fit s outside.names unnamed_params (length f.params) (k ∷ ks) few_unnamed);
      }

  function_right_at : (o : Option (List BlockSyntax)) → type_fits f.ret ≡ true → Each ParamKept f.params → BodyKept spelling f.params o → function_faults g (with_body f o) ≡ [] → RightFunction m (made o)
  function_right_at o ret params h e =
      let b = body_right o h e in
      let pl = params_locals g.name 0 f.params in
      let n = length-params g.name 0 f.params in
      let t = take_at pl (body_locals g.name o) (length f.params) n in
      let few0 : 0 + length f.params < 2 ^ 32 = omega arith in
      record {
        parameters_first = le-leb (length f.params) (length (pl ++ body_locals g.name o)) (let l = length-append pl (body_locals g.name o) in omega arith);
        steps = b.steps;
        distinct = distinct_right o e;
        once = counted_once (made o) 0 (length (made o).locals) (length (made o).locals) b.counts (omega arith);
        ordered = counted_up (length f.params) (results_of (made o)) (length (made o).locals) b.counts;
        body = b.body;
        parameters = subst (λ ls. list_all (λ t. not (is_void t)) (map (λ l. l.1) ls) ≡ true) (sym t) (list_all-each {A = Ty} (λ t. not (is_void t)) (map (λ l. l.1) pl) (Each-map _ (λ l. l.1) pl (params_types (λ t. not (is_void t) ≡ true) g.name 0 f.params (Each-weaker ParamKept _ (λ p k. not_false _ k.type.solid) f.params params))));
        ret = ret;
        locals = Each-append _ pl (body_locals g.name o) (params_types (λ t. type_fits t ≡ true) g.name 0 f.params (Each-weaker ParamKept _ (λ p k. k.type.fits) f.params params)) (body_types spelling g.name f.params o h);
        declared = b.declared;
        names = and_from _ _ (outside.names f.name) (and_from _ _ (list_all-each (λ l. name_fits l.0) (pl ++ body_locals g.name o) (Each-append _ pl (body_locals g.name o) (params_names g.name outside.names 0 f.params few0) (body_names g.name outside.names o))) b.labels);
        attributes = list_all-each {A = Attr} attr_fits (flat_map (group_attrs (scene o)) f.groups) (Each-flat _ (group_attrs (scene o)) f.groups (Each-always _ (λ t. attrs_right (scene o) outside.strings (item_at (scene o) ((scene o).group t))) f.groups));
      }

  pub function_right : FunctionKept spelling f → function_faults g f ≡ [] → RightFunction m (function_of g f)
  function_right h e = function_right_at f.blocks h.ret h.params h.body e
