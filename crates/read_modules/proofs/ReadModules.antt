-- The module that a text spells is in order, and canonical text can hold it.
use Rattle.std.specs.Prelude.{nat_lt, nat_le, is_none, flat_map}
use Rattle.std.proofs.Common.{◌≡◌, ℕ, suc, ◌+◌, ◌*◌, ◌^◌, ◌<◌, ◌≤◌, Bool, true, not, ◌&&◌, ◌||◌, Option, None, Some, List, [], ◌∷◌, ◌++◌, length, map, refl, sym, ap, ◌∙◌, subst, arith}
use Rattle.std.specs.List.{list_all, filter_map, cons_option, sum_by}
use Rattle.std.proofs.lemmas.Bool.{and_from, lt-ltb, le-leb}
use Rattle.std.proofs.lemmas.List.{length-map}
use Rattle.std.proofs.lemmas.List.Sums.{sum_by-cons}
use Rattle.ir_values.specs.declared.name.Name.{Name}
use Rattle.ir_values.specs.Types.{is_ty}
use Rattle.ir_module.specs.declared.tree.Function.{Function}
use Rattle.ir_module.specs.declared.tree.Module.{Module}
use Rattle.ir_module.specs.Classes.{parameter_types}
use Rattle.ir_module.specs.Numbered.{Numbered, step_in_range, is_written, flags_allowed, on_integers, has_result, not_void, calls_whole, is_void, are_distinct, global_names, local_names, defined_once, has_block, are_few}
use Rattle.ir_module.specs.Operands.{step_operands}
use Rattle.ir_module.specs.Printable.{IsPrintable, names_fit, type_fits, types_fit, step_fits, in_text_order, declaration_fits, attr_fits, constant_text_fits, flag_fits}
use Rattle.ir_module.specs.Steps.{Step, steps_of}
use Rattle.ir_module.specs.Tree.{blocks_of, blocks_or_none}
use Rattle.ir_tokens.specs.Spelled.{name_at, string_at, spelling_at}
use Rattle.ir_tokens.specs.declared.token.Token.{Token}
use Rattle.ir_grammar.specs.declared.tree.BlockSyntax.{BlockSyntax}
use Rattle.ir_grammar.specs.declared.tree.FunctionSyntax.{FunctionSyntax}
use Rattle.ir_grammar.specs.declared.tree.ItemSyntax.{ItemSyntax}
use Rattle.ir_grammar.specs.declared.tree.ItemSyntax.TheVariants as syntax
use Rattle.ir_names.specs.Blocks.{blocks_of as blocks_named, behind_block}
use Rattle.ir_names.specs.code.Names.{same_name as equal_names}
use Rattle.ir_names.specs.declared.before.Before.{Before}
use Rattle.ir_names.specs.Functions.{behind_params, inside, body_of, function_faults, function_of}
use Rattle.ir_names.specs.Items.{global_duplicate, item_faults, behind, items_faults, constant_in, function_in, function_name_in}
use Rattle.ir_names.specs.Module.{constants_of, told, start, module_of}
use Rattle.ir_names.specs.Sense.{Sense, number_of}
use Rattle.read_modules.specs.Read.{IsRead}
use Rattle.read_modules.proofs.Each.{Each, Any, Each-filter, Each-always, Each-weaker, list_all-each, none_left, none_right}
use Rattle.read_modules.proofs.Bytes.{name_at_fits, string_at_bytes, string_at_short}
use Rattle.read_modules.proofs.Counting.{found_below}
use Rattle.read_modules.proofs.Distinct.{Definition, One, Other, IsNew, AllNew, ones, others, distinct_names}
use Rattle.read_modules.proofs.KeptInstructions.{type_whole}
use Rattle.read_modules.proofs.KeptItems.{FunctionKept, ItemKept, text_kept}
use Rattle.read_modules.proofs.RightFlags.{flags_right, flags_few}
use Rattle.read_modules.proofs.RightFunctions.{FairOutside, RightFunction, function_right}
use Rattle.read_modules.proofs.RightSteps.{RightStep, no_fault}
use Rattle.read_modules.proofs.TextTokens.{FoundAgain, tokens_told, tokens_few}
use Rattle.read_modules.proofs.Weights.{blocks_in, function_weight, weight, text_weighs}

-- Functions of a module.

record ListedFunction (m : Module) (f : Function) : Type 0 where
  right : RightFunction m f
  few_blocks : are_few (blocks_of f) ≡ true
  few_params : nat_lt f.params (2 ^ 32) ≡ true

length-blocks : (s : Sense) (unnamed v : ℕ) (ks : List BlockSyntax) → length (blocks_named s unnamed v ks) ≡ length ks
length-blocks s unnamed v [] = refl
length-blocks s unnamed v (k ∷ ks) = ap suc (length-blocks s unnamed (behind_block v k) ks)

few_in_body : (s : Sense) (unnamed v : ℕ) (o : Option (List BlockSyntax)) → blocks_in o < 2 ^ 32 → are_few (blocks_or_none (body_of s unnamed v o)) ≡ true
few_in_body s unnamed v None l = refl
few_in_body s unnamed v (Some ks) l = lt-ltb _ _ (let e = length-blocks s unnamed v ks in omega arith)

module _ {spelling : Token → List ℕ} (m : Module) (g : Sense) (outside : FairOutside spelling m g) where
  listed_function : (f : FunctionSyntax) → function_weight f < 2 ^ 32 → FunctionKept spelling f → function_faults g f ≡ [] → ListedFunction m (function_of g f)
  listed_function f l h e = record {
    right = function_right m g outside f (omega arith) h e;
    few_blocks = few_in_body (inside g f) (behind_params 0 f.params) (length f.params) f.blocks (omega arith);
    few_params = lt-ltb (length f.params) (2 ^ 32) (omega arith);
  }

  item_function : (b : Before) (i : ItemSyntax) → weight i < 2 ^ 32 → ItemKept spelling i → item_faults g b i ≡ [] → Any (ListedFunction m) (function_in g i)
  item_function b (syntax.Function f) l h e = listed_function f l h (none_right (global_duplicate g b f.name) _ e)
  item_function b syntax.Aside l h e = tt
  item_function b (syntax.Constant t bytes) l h e = tt
  item_function b (syntax.Group t attrs) l h e = tt
  item_function b (syntax.List t ns) l h e = tt
  item_function b (syntax.Node t es) l h e = tt

  functions_right : (b : Before) (items : List ItemSyntax) → sum_by weight items < 2 ^ 32 → Each (ItemKept spelling) items → items_faults g b items ≡ [] → Each (λ i. Any (ListedFunction m) (function_in g i)) items
  functions_right b [] l h e = tt
  functions_right b (i ∷ is) l h e =
      let c = sum_by-cons weight i is in
      (item_function b i (omega arith) h.0 (none_left _ _ e), functions_right (behind b i) is (omega arith) h.1 (none_right (item_faults g b i) _ e))

-- Names outside of functions.

abbrev definition_in : (Token → Name) → ItemSyntax → List Definition
definition_in name (syntax.Constant t bytes) = One (name t) ∷ []
definition_in name (syntax.Function f) = Other (name f.name) ∷ []
definition_in name syntax.Aside = []
definition_in name (syntax.Group t attrs) = []
definition_in name (syntax.List t ns) = []
definition_in name (syntax.Node t es) = []

new_global : (g : Sense) (b : Before) (t : Token) → global_duplicate g b t ≡ [] → IsNew g.constant g.function b.constants b.functions (g.name t)
new_global g b t e = record { new = no_fault _ t e }

globals_new : (g : Sense) (b : Before) (items : List ItemSyntax) → items_faults g b items ≡ [] → (w c : ℕ) × AllNew g.constant g.function b.constants b.functions (flat_map (definition_in g.name) items) w c
globals_new g b [] e = (b.constants, b.functions, (refl, refl))
globals_new g b (syntax.Constant t bytes ∷ is) e =
    let more = globals_new g (behind b (syntax.Constant t bytes)) is (none_right (item_faults g b (syntax.Constant t bytes)) _ e) in
    (more.0, more.1, (new_global g b t (none_left _ _ e), more.2))
globals_new g b (syntax.Function f ∷ is) e =
    let more = globals_new g (behind b (syntax.Function f)) is (none_right (item_faults g b (syntax.Function f)) _ e) in
    (more.0, more.1, (new_global g b f.name (none_left _ _ (none_left (item_faults g b (syntax.Function f)) _ e)), more.2))
globals_new g b (syntax.Aside ∷ is) e = globals_new g (behind b syntax.Aside) is e
globals_new g b (syntax.Group t attrs ∷ is) e = globals_new g (behind b (syntax.Group t attrs)) is (none_right (item_faults g b (syntax.Group t attrs)) _ e)
globals_new g b (syntax.List t ns ∷ is) e = globals_new g (behind b (syntax.List t ns)) is (none_right (item_faults g b (syntax.List t ns)) _ e)
globals_new g b (syntax.Node t es ∷ is) e = globals_new g (behind b (syntax.Node t es)) is (none_right (item_faults g b (syntax.Node t es)) _ e)

global_ones : (name : Token → Name) (string : Token → List ℕ) (items : List ItemSyntax) → ones (flat_map (definition_in name) items) ≡ map (λ c. c.name) (filter_map (constant_in name string) items)
global_ones name string [] = refl
global_ones name string (syntax.Constant t bytes ∷ is) = ap (λ l. name t ∷ l) (global_ones name string is)
global_ones name string (syntax.Function f ∷ is) = global_ones name string is
global_ones name string (syntax.Aside ∷ is) = global_ones name string is
global_ones name string (syntax.Group t attrs ∷ is) = global_ones name string is
global_ones name string (syntax.List t ns ∷ is) = global_ones name string is
global_ones name string (syntax.Node t es ∷ is) = global_ones name string is

global_others : (name : Token → Name) (items : List ItemSyntax) → others (flat_map (definition_in name) items) ≡ filter_map (function_name_in name) items
global_others name [] = refl
global_others name (syntax.Constant t bytes ∷ is) = global_others name is
global_others name (syntax.Function f ∷ is) = ap (λ l. name f.name ∷ l) (global_others name is)
global_others name (syntax.Aside ∷ is) = global_others name is
global_others name (syntax.Group t attrs ∷ is) = global_others name is
global_others name (syntax.List t ns ∷ is) = global_others name is
global_others name (syntax.Node t es ∷ is) = global_others name is

function_names : (g : Sense) (items : List ItemSyntax) → filter_map (function_name_in g.name) items ≡ map (λ f. f.name) (filter_map (function_in g) items)
function_names g [] = refl
function_names g (syntax.Constant t bytes ∷ is) = function_names g is
function_names g (syntax.Function f ∷ is) = ap (λ l. g.name f.name ∷ l) (function_names g is)
function_names g (syntax.Aside ∷ is) = function_names g is
function_names g (syntax.Group t attrs ∷ is) = function_names g is
function_names g (syntax.List t ns ∷ is) = function_names g is
function_names g (syntax.Node t es ∷ is) = function_names g is

-- Counts.

abbrev size_of_option : {A : Type 0} → Option A → ℕ
size_of_option None = 0
size_of_option (Some x) = 1

consed_length : {A : Type 0} (o : Option A) (xs : List A) → length (cons_option o xs) ≡ size_of_option o + length xs
consed_length None xs = omega arith
consed_length (Some x) xs = omega arith

-- what items with a token of their own give
given_few : {A : Type 0} (f : ItemSyntax → Option A) → ((i : ItemSyntax) → size_of_option (f i) ≤ weight i) → (items : List ItemSyntax) → length (filter_map f items) ≤ sum_by weight items
given_few f h [] = omega arith
given_few f h (i ∷ is) =
    let a = consed_length (f i) (filter_map f is) in let b = h i in let c = sum_by-cons weight i is in let d = given_few f h is in omega arith

constant_weight : (name : Token → Name) (string : Token → List ℕ) (i : ItemSyntax) → size_of_option (constant_in name string i) ≤ weight i
constant_weight name string (syntax.Constant t bytes) = omega arith
constant_weight name string (syntax.Function f) = omega arith
constant_weight name string syntax.Aside = omega arith
constant_weight name string (syntax.Group t attrs) = omega arith
constant_weight name string (syntax.List t ns) = omega arith
constant_weight name string (syntax.Node t es) = omega arith

function_counted : (g : Sense) (i : ItemSyntax) → size_of_option (function_in g i) ≤ weight i
function_counted g (syntax.Constant t bytes) = omega arith
function_counted g (syntax.Function f) = omega arith
function_counted g syntax.Aside = omega arith
function_counted g (syntax.Group t attrs) = omega arith
function_counted g (syntax.List t ns) = omega arith
function_counted g (syntax.Node t es) = omega arith

-- The whole module.

all_right : (m : Module) (fs : List Function) (test : Function → Step → Bool) → ((f : Function) (st : Step) → RightStep m f st → test f st ≡ true) → Each (ListedFunction m) fs → list_all (λ f. list_all (test f) (steps_of f)) fs ≡ true
all_right m fs test h each = list_all-each (λ f. list_all (test f) (steps_of f)) fs (Each-weaker (ListedFunction m) _ (λ f k. list_all-each (test f) (steps_of f) (Each-weaker (RightStep m f) _ (h f) (steps_of f) k.right.steps)) fs each)

of_functions : (m : Module) (fs : List Function) (test : Function → Bool) → ((f : Function) → ListedFunction m f → test f ≡ true) → Each (ListedFunction m) fs → list_all test fs ≡ true
of_functions m fs test h each = list_all-each test fs (Each-weaker (ListedFunction m) _ h fs each)

module _ (text : List ℕ) (tokens : List Token) (items : List ItemSyntax) (again : FoundAgain) (read : IsRead text tokens items) where
  abbrev spelling : Token → List ℕ
  spelling t = spelling_at text t.place

  abbrev g : Sense
  g = told text items

  abbrev m : Module
  m = module_of text items

  kept : Each (ItemKept spelling) items
  kept = text_kept.kept tokens items (tokens_told again text tokens read.whole) read.derived

  few : sum_by weight items < 2 ^ 32
  few = let a = text_weighs tokens items read.derived in let b = tokens_few text tokens read.whole in let c = read.short in omega arith

  outside : FairOutside spelling m g
  outside = record {
    spelled = λ t. refl;
    constants = λ n k e. let b = found_below (equal_names n) 0 (map (λ c. c.name) (constants_of text items)) k e in let l = length-map (constants_of text items) (λ c. c.name) in omega arith;
    functions = λ n k e. let b = found_below (equal_names n) 0 (filter_map (function_name_in (name_at text)) items) k e in let l = length-map m.funcs (λ f. f.name) in let i = ap length (function_names g items) in omega arith;
    names = λ t. name_at_fits text t read.bytes;
    strings = λ t. string_at_bytes text t read.bytes;
  }

  functions : Each (ListedFunction m) m.funcs
  functions = Each-filter (ListedFunction m) (function_in g) items (functions_right m g outside start items few kept read.faultless)

  globals_distinct : are_distinct (global_names m) ≡ true
  globals_distinct =
      let n = globals_new g start items read.faultless in
      let ds = flat_map (definition_in (name_at text)) items in
      let one_names = global_ones (name_at text) (string_at text) items in
      let other_names = global_others (name_at text) items in
      let k = subst (λ xs. AllNew (number_of equal_names xs) g.function 0 0 ds n.0 n.1) (sym one_names) n.2 in
      let l = subst (λ xs. AllNew (number_of equal_names (ones ds)) (number_of equal_names xs) 0 0 ds n.0 n.1) (sym other_names) k in
      let d = distinct_names ds n.0 n.1 l in
      let a = subst (λ xs. are_distinct (xs ++ others ds) ≡ true) one_names d in
      subst (λ xs. are_distinct (map (λ c. c.name) m.globals ++ xs) ≡ true) (other_names ∙ function_names g items) a

  pub numbered : Numbered m
  numbered = record {
    in_range = and_from _ _ (of_functions m m.funcs (λ f. nat_le f.params (length f.locals)) (λ f k. k.right.parameters_first) functions) (all_right m m.funcs (step_in_range m) (λ f st r. r.in_range) functions);
    distinct = and_from _ _ globals_distinct (of_functions m m.funcs (λ f. are_distinct (local_names f)) (λ f k. k.right.distinct) functions);
    written = all_right m m.funcs (λ f st. list_all is_written (step_operands st)) (λ f st r. r.written) functions;
    results = of_functions m m.funcs (λ f. defined_once f 0 (length f.locals)) (λ f k. k.right.once) functions;
    bodies = of_functions m m.funcs (λ f. has_block f.blocks) (λ f k. k.right.body) functions;
    flags = all_right m m.funcs (λ f st. flags_allowed st) (λ f st r. r.flags) functions;
    integers = all_right m m.funcs (λ f st. on_integers st) (λ f st r. r.integers) functions;
    named = all_right m m.funcs (λ f st. has_result st) (λ f st r. r.named) functions;
    values = and_from _ _ (of_functions m m.funcs (λ f. list_all (λ t. not (is_void t)) (parameter_types f)) (λ f k. k.right.parameters) functions) (all_right m m.funcs not_void (λ f st r. r.solid) functions);
    few = and_from _ _ (lt-ltb (length m.globals) (2 ^ 32) (let c = given_few (constant_in (name_at text) (string_at text)) (constant_weight (name_at text) (string_at text)) items in let l = few in omega arith))
        (and_from _ _ (lt-ltb (length m.funcs) (2 ^ 32) (let c = given_few (function_in g) (function_counted g) items in let l = few in omega arith))
        (of_functions m m.funcs (λ f. are_few (blocks_of f)) (λ f k. k.few_blocks) functions));
    whole = and_from _ _ (of_functions m m.funcs (λ f. is_ty f.ret && list_all (λ l. is_ty l.1) f.locals) (λ f k. and_from _ _ (type_whole f.ret k.right.ret) (list_all-each (λ l. is_ty l.1) f.locals (Each-weaker _ _ (λ l h. type_whole l.1 h) f.locals k.right.locals))) functions)
        (all_right m m.funcs (λ f st. calls_whole st) (λ f st r. r.whole) functions);
  }

  constant_right : (i : ItemSyntax) → Any (λ c. constant_text_fits c ≡ true) (constant_in (name_at text) (string_at text) i)
  constant_right (syntax.Constant t bytes) = and_from _ _ (name_at_fits text t read.bytes) (and_from _ _ (string_at_bytes text bytes read.bytes) (lt-ltb _ _ (let a = string_at_short text bytes in let c = read.short in omega arith)))
  constant_right syntax.Aside = tt
  constant_right (syntax.Function f) = tt
  constant_right (syntax.Group t attrs) = tt
  constant_right (syntax.List t ns) = tt
  constant_right (syntax.Node t es) = tt

  pub printable : IsPrintable m
  printable = record {
    numbered = numbered;
    steps = all_right m m.funcs step_fits (λ f st r. r.fits) functions;
    results = of_functions m m.funcs in_text_order (λ f k. k.right.ordered) functions;
    declarations = of_functions m m.funcs (λ f. not (is_none f.blocks) || declaration_fits f) (λ f k. k.right.declared) functions;
    types = of_functions m m.funcs types_fit (λ f k. and_from _ _ k.right.ret (list_all-each (λ l. type_fits l.1) f.locals k.right.locals)) functions;
    names = of_functions m m.funcs (λ f. names_fit f && nat_lt f.params (2 ^ 32)) (λ f k. and_from _ _ k.right.names k.few_params) functions;
    attributes = of_functions m m.funcs (λ f. list_all attr_fits f.attrs) (λ f k. k.right.attributes) functions;
    constants = list_all-each constant_text_fits m.globals (Each-filter (λ c. constant_text_fits c ≡ true) (constant_in (name_at text) (string_at text)) items (Each-always _ constant_right items));
    flags = list_all-each flag_fits m.flags (flags_right spelling g kept (λ t. string_at_bytes text t read.bytes));
    nodes = le-leb (2 * length m.flags) (2 ^ 32) (let a = flags_few g in let l = few in omega arith);
  }
