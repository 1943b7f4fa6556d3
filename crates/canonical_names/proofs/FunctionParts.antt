-- The parts of a function are a sentence of the grammar, and its tree stands for the function.
use Rattle.std.specs.Prelude.{◌==◌, ◌||◌, not, is_none, nat_lt, codes}
use Rattle.std.specs.List.{list_all, flat_map}
use Rattle.std.specs.Option.{option_to_list}
use Rattle.std.proofs.Common.{◌≡◌, ℕ, zero, suc, ◌+◌, ◌^◌, ◌<◌, ◌≤◌, true, false, Option, None, Some, List, [], ◌∷◌, ◌++◌, length, take, map, refl, sym, ap, ◌∙◌, subst, arith, append_assoc, append-nil}
use Rattle.std.proofs.lemmas.Bool.{and_parts, and_from, le-ltb, or_from, false≢true}
use Rattle.std.proofs.lemmas.List.{length-append}
use Rattle.grammar.specs.Grammar.{Grammar, ignored, alt}
use Rattle.ir_text.specs.declared.tok.Tok.TheVariants as sort
use Rattle.ir_values.specs.declared.name.Name.{Name}
use Rattle.ir_values.specs.declared.name.Name.TheVariants as name_is
use Rattle.ir_values.specs.declared.ty.Ty.{Ty}
use Rattle.ir_module.specs.Classes.{parameter_types}
use Rattle.ir_module.specs.Numbered.{same_name, are_distinct, local_names, is_void, has_block, results_of, defined_once}
use Rattle.ir_module.specs.Printable.{name_fits, type_fits, value_type_fits, ascend_from, are_numbered, declaration_fits}
use Rattle.ir_module.specs.Tree.{blocks_of, blocks_or_none}
use Rattle.ir_module.specs.declared.tree.Attr.{Attr}
use Rattle.ir_module.specs.declared.tree.Block.{Block}
use Rattle.ir_module.specs.declared.tree.Function.{Function}
use Rattle.ir_module.specs.declared.tree.Module.{Module}
use Rattle.ir_tokens.specs.declared.kind.Kind.TheVariants as kind
use Rattle.ir_tokens.specs.declared.token.Token.{Token}
use Rattle.ir_tokens.specs.Tokens.{tokens}
use Rattle.ir_grammar.specs.Functions.{head, tail, declared_param, param, params_of, declaration, definition}
use Rattle.ir_grammar.specs.Instructions.{groups}
use Rattle.ir_grammar.specs.SideRules.{number}
use Rattle.ir_grammar.specs.declared.tree.BlockSyntax.{BlockSyntax}
use Rattle.ir_grammar.specs.declared.tree.FunctionSyntax.{FunctionSyntax}
use Rattle.ir_grammar.specs.declared.tree.ParamSyntax.{ParamSyntax}
use Rattle.ir_names.specs.Blocks.{name_or}
use Rattle.ir_names.specs.Faults.{fault_if}
use Rattle.ir_names.specs.Functions.{behind_param, params_locals, behind_params, body_locals, locals_of, label_name, body_labels, within, inside, group_attrs, param_token, params_faults, body_faults, body_of, inner_faults, inner_of, function_faults, function_of}
use Rattle.ir_names.specs.Instructions.{group_faults}
use Rattle.ir_names.specs.Sense.{Sense, is_before}
use Rattle.ir_names.specs.declared.fault.NameCode.TheVariants.{Duplicate}
use Rattle.ir_parts.specs.Parts.{Part}
use Rattle.ir_printer.specs.Functions.{blocks_parts, named_param, nameless_param, params_parts, name_parts, declaration_parts, definition_parts, body_parts, function_parts}
use Rattle.ir_printer.specs.Groups.{number_from, groups_of, group_use, group_token}
use Rattle.ir_printer.specs.Pieces.{blank, line_end, sign}
use Rattle.canonical_text.proofs.Facts.{all_taken}
use Rattle.canonical_text.proofs.OperandsGood.{Known}
use Rattle.read_modules.proofs.Each.{Each}
use Rattle.read_modules.proofs.SameNames.{same_decides}
use Rattle.canonical_syntax.specs.Builds.{Builds}
use Rattle.canonical_syntax.specs.Tells.{name_by, Tells}
use Rattle.canonical_syntax.proofs.Builds.{Stand, IsSomeOf, builds_gap, builds_trail, builds_seq, builds_as, builds_weaker, builds_same, builds_left, builds_right, builds_some, builds_rep, builds_never, builds_commas, behind, before}
use Rattle.canonical_syntax.proofs.Instructions.{none_both, worded_builds}
use Rattle.canonical_syntax.proofs.Tokens.{local_builds, global_builds, group_builds}
use Rattle.canonical_syntax.proofs.Types.{return_builds, taken_length}
use Rattle.canonical_syntax.proofs.Words.{declare_word, define_word}
use Rattle.canonical_names.specs.Functions.{TellsModule, MeansFunction}
use Rattle.canonical_names.proofs.Bodies.{IsBlock, FitBlock, blocks_build}
use Rattle.canonical_names.proofs.Groups.{IsGroup}
use Rattle.canonical_names.proofs.Meaning.{blocks_local, blocks_mean, same_cons}
use Rattle.canonical_names.proofs.Places.{From, From-append, from_itself, whole_from, mapped_get, placed, distinct_left, distinct_right, apart_left, apart_right}
use Rattle.canonical_names.proofs.Results.{Ascends, block_results, blocks_define, results_end}

-- ---- parameters

-- the parameters of a definition have names, and those of a declaration have none
pub record IsParam (spelling : Token → List ℕ) (l : Name × Ty) (x : ParamSyntax) : Type 0 where
  pub type : x.ty ≡ l.1
  pub name : IsSomeOf (λ t. name_by spelling t ≡ l.0) x.name

pub record IsDeclared (l : Name × Ty) (x : ParamSyntax) : Type 0 where
  pub type : x.ty ≡ l.1
  pub nameless : x.name ≡ None

-- both are what they are named by then
abbrev pub Params : (Token → List ℕ) → ℕ → List (Name × Ty) → List ParamSyntax → Type 0
Params spelling u [] [] = Unit {0}
Params spelling u [] (x ∷ xs) = ⊥
Params spelling u (l ∷ ls) [] = ⊥
Params spelling u (l ∷ ls) (x ∷ xs) = (x.ty ≡ l.1) × (name_or (name_by spelling) u x.name ≡ l.0) × Params spelling (behind_param u x.name) ls xs

named_params : (spelling : Token → List ℕ) (u : ℕ) (ls : List (Name × Ty)) (xs : List ParamSyntax) → Stand (IsParam spelling) ls xs → Params spelling u ls xs
named_params spelling u [] [] h = tt
named_params spelling u [] (x ∷ xs) h = absurd h
named_params spelling u (l ∷ ls) [] h = absurd h
named_params spelling u (l ∷ ls) (x ∷ xs) h = (h.0.type, own x.name h.0.name, named_params spelling (behind_param u x.name) ls xs h.1)
  where
    own : (o : Option Token) → IsSomeOf (λ t. name_by spelling t ≡ l.0) o → name_or (name_by spelling) u o ≡ l.0
    own None w = absurd w
    own (Some t) w = w

declared_params : (spelling : Token → List ℕ) (u : ℕ) (ls : List (Name × Ty)) (xs : List ParamSyntax) → Stand IsDeclared ls xs → are_numbered u ls ≡ true → Params spelling u ls xs
declared_params spelling u [] [] h n = tt
declared_params spelling u [] (x ∷ xs) h n = absurd h
declared_params spelling u (l ∷ ls) [] h n = absurd h
declared_params spelling u (l ∷ ls) (x ∷ xs) h n =
    let p = and_parts (same_name l.0 (name_is.Number u)) (are_numbered (u + 1) ls) n in
    let e = (same_decides l.0 (name_is.Number u)).0 p.0 in (
      h.0.type,
      ap (name_or (name_by spelling) u) h.0.nameless ∙ sym e,
      subst (λ o. Params spelling (behind_param u o) ls xs) (sym h.0.nameless) (declared_params spelling (u + 1) ls xs h.1 p.1),
    )

params_are : (spelling : Token → List ℕ) (u : ℕ) (ls : List (Name × Ty)) (xs : List ParamSyntax) → Params spelling u ls xs → params_locals (name_by spelling) u xs ≡ ls
params_are spelling u [] [] h = refl
params_are spelling u [] (x ∷ xs) h = absurd h
params_are spelling u (l ∷ ls) [] h = absurd h
params_are spelling u (l ∷ ls) (x ∷ xs) h = same_cons (pair h.1 h.0) (params_are spelling (behind_param u x.name) ls xs h.2)
  where
    pair : {n n' : Name} {t t' : Ty} → n ≡ n' → t ≡ t' → ◌≡◌ {A = Name × Ty} (n, t) (n', t')
    pair e d = cc

params_count : (spelling : Token → List ℕ) (u : ℕ) (ls : List (Name × Ty)) (xs : List ParamSyntax) → Params spelling u ls xs → length xs ≡ length ls
params_count spelling u [] [] h = refl
params_count spelling u [] (x ∷ xs) h = absurd h
params_count spelling u (l ∷ ls) [] h = absurd h
params_count spelling u (l ∷ ls) (x ∷ xs) h = let e = params_count spelling (behind_param u x.name) ls xs h.2 in omega arith

params_new : {spelling : Token → List ℕ} (m : Module) (f : Function) (s : Sense) → Tells spelling m f s → (u v : ℕ) (ls : List (Name × Ty)) (xs : List ParamSyntax) → Params spelling u ls xs → From f.locals v ls → params_faults s u v xs ≡ []
params_new m f s r u v [] [] h g = refl
params_new m f s r u v [] (x ∷ xs) h g = absurd h
params_new m f s r u v (l ∷ ls) [] h g = absurd h
params_new m f s r u v (l ∷ ls) (x ∷ xs) h g =
    let k = r.values v l g.0 in
    let n : name_or s.name u x.name ≡ l.0 = ap (λ name. name_or name u x.name) r.name ∙ h.1 in
    let first : is_before (s.value (name_or s.name u x.name)) v ≡ false = ap (λ o. is_before o v) (ap s.value n ∙ k.0) ∙ le-ltb v v (omega arith) in
    let second : is_before (s.label (name_or s.name u x.name)) 0 ≡ false = ap (λ o. is_before o 0) (ap s.label n ∙ k.1) in
    none_both (ap (λ c. fault_if c Duplicate (param_token x.first x.name)) (or_from (is_before (s.value (name_or s.name u x.name)) v) (is_before (s.label (name_or s.name u x.name)) 0) first second))
    (params_new m f s r (behind_param u x.name) (v + 1) ls xs h.2 g.1)

module _ (spelling : Token → List ℕ) where
  each_named : (ls : List (Name × Ty)) → list_all (λ l. value_type_fits l.1) ls ≡ true → list_all (λ l. name_fits l.0) ls ≡ true → Each (λ l. Builds spelling param (named_param l) (IsParam spelling l)) ls
  unfolding param
  each_named [] h d = tt
  each_named (l ∷ ls) h d =
      let p = and_parts (value_type_fits l.1) (list_all (λ l. value_type_fits l.1) ls) h in
      let q = and_parts (name_fits l.0) (list_all (λ l. name_fits l.0) ls) d in (
        builds_as (builds_seq (worded_builds l.1 p.0) (builds_gap (codes " ") (builds_some (builds_weaker {Q = λ t. name_by spelling t ≡ l.0} (local_builds l.0 q.0) (λ t e. e.1)))))
            (λ x w. record { type = w.0; name = w.1 }),
        each_named ls p.1 q.1,
      )

  each_declared : (ls : List (Name × Ty)) → list_all (λ l. value_type_fits l.1) ls ≡ true → Each (λ l. Builds spelling declared_param (nameless_param l) (IsDeclared l)) ls
  unfolding declared_param
  each_declared [] h = tt
  each_declared (l ∷ ls) h =
      let p = and_parts (value_type_fits l.1) (list_all (λ l. value_type_fits l.1) ls) h in
      (builds_as (worded_builds l.1 p.0) (λ x w. record { type = w; nameless = refl }), each_declared ls p.1)

  params_build : (g : Grammar tokens ParamSyntax) (parts : Name × Ty → List Part) (R : Name × Ty → ParamSyntax → Type 0) (ls : List (Name × Ty)) → Each (λ l. Builds spelling g (parts l) (R l)) ls → Builds spelling (params_of g) (params_parts parts ls) (Stand R ls)
  unfolding params_of
  params_build g parts R ls h = behind kind.Open sort.Sign (codes "(") refl (before kind.Close sort.Sign (codes ")") refl (builds_commas g parts R ls h))

-- ---- groups

abbrev IsNumber : ℕ → Token → Type 0
IsNumber n t = number t ≡ n

abbrev pub Below : Option ℕ → Type 0
Below None = Unit {0}
Below (Some n) = n < 2 ^ 32

module _ (spelling : Token → List ℕ) where
  groups_build : (o : Option ℕ) → Below o → Builds spelling groups (group_use o) (Stand IsNumber (option_to_list o))
  unfolding groups
  groups_build None h = builds_weaker builds_never (λ ts e. subst (Stand IsNumber []) (sym e) tt)
  groups_build (Some n) h = builds_rep (λ n. blank ∷ group_token n ∷ []) IsNumber (n ∷ []) (builds_gap (codes " ") (group_builds n h), tt)

  tail_builds : (o : Option ℕ) → Below o → Builds spelling tail (group_use o) (Stand IsNumber (option_to_list o))
  unfolding tail ignored
  tail_builds o h = builds_as (builds_seq (builds_as {Q = λ u. Unit {0}} builds_never (λ x w. tt)) (groups_build o h)) (λ p w. w.1)

groups_mean : {spelling : Token → List ℕ} (m : Module) (s : Sense) → TellsModule spelling m s → (attrs : List Attr) (o : Option ℕ) → IsGroup (groups_of m) attrs o → (ts : List Token) → Stand IsNumber (option_to_list o) ts → (flat_map (group_faults s) ts ≡ []) × (flat_map (group_attrs s) ts ≡ attrs)
groups_mean m s r attrs None g [] h = (refl, sym g)
groups_mean m s r attrs None g (t ∷ ts) h = absurd h
groups_mean m s r attrs (Some n) g [] h = absurd h
groups_mean m s r attrs (Some n) g (t ∷ []) h = let w = r.groups t n attrs h.0 g in (none_both w.0 refl, ap (λ l. l ++ []) w.1 ∙ append-nil attrs)
groups_mean m s r attrs (Some n) g (t ∷ u ∷ ts) h = absurd h.1

-- ---- whole functions

-- what is known of a function
pub record FitFunction (m : Module) (f : Function) : Type 0 where
  pub known : Known m f
  pub name : name_fits f.name ≡ true
  pub ret : type_fits f.ret ≡ true
  pub locals : list_all (λ l. type_fits l.1) f.locals ≡ true
  pub values : list_all (λ t. not (is_void t)) (parameter_types f) ≡ true
  pub params : f.params ≤ length f.locals
  pub distinct : are_distinct (local_names f) ≡ true
  pub in_range : list_all (λ r. nat_lt r.0 (length f.locals)) (results_of f) ≡ true
  pub in_order : ascend_from f.params (results_of f) ≡ true
  pub once : defined_once f 0 (length f.locals) ≡ true
  pub body : has_block f.blocks ≡ true
  pub declared : (not (is_none f.blocks) || declaration_fits f) ≡ true
  pub blocks : Each (FitBlock m f) (blocks_of f)
  pub group : IsGroup (groups_of m) f.attrs (number_from 0 f.attrs (groups_of m))
  pub few : Below (number_from 0 f.attrs (groups_of m))

value_types : (ls : List (Name × Ty)) → list_all (λ t. not (is_void t)) (map (λ l. l.1) ls) ≡ true → list_all (λ l. type_fits l.1) ls ≡ true → list_all (λ l. value_type_fits l.1) ls ≡ true
value_types [] h d = refl
value_types (l ∷ ls) h d =
    let p = and_parts (not (is_void l.1)) (list_all (λ t. not (is_void t)) (map (λ l. l.1) ls)) h in
    let q = and_parts (type_fits l.1) (list_all (λ l. type_fits l.1) ls) d in
    and_from (value_type_fits l.1) (list_all (λ l. value_type_fits l.1) ls) (and_from (not (is_void l.1)) (type_fits l.1) p.0 q.0) (value_types ls p.1 q.1)

-- the blocks of a body
abbrev IsBody : (Token → List ℕ) → Module → Function → Option (List Block) → Option (List BlockSyntax) → Type 0
IsBody spelling m f None None = Unit {0}
IsBody spelling m f None (Some xs) = ⊥
IsBody spelling m f (Some bs) None = ⊥
IsBody spelling m f (Some bs) (Some xs) = Stand (IsBlock spelling m f) bs xs

-- the tree of a function
record IsFunction (spelling : Token → List ℕ) (m : Module) (f : Function) (x : FunctionSyntax) : Type 0 where
  name : name_by spelling x.name ≡ f.name
  ret : x.ret ≡ f.ret
  params : Params spelling 0 (take f.params f.locals) x.params
  groups : Stand IsNumber (option_to_list (number_from 0 f.attrs (groups_of m))) x.groups
  blocks : IsBody spelling m f f.blocks x.blocks

numbered_taken : (u k : ℕ) (ls : List (Name × Ty)) → are_numbered u ls ≡ true → are_numbered u (take k ls) ≡ true
numbered_taken u zero ls h = refl
numbered_taken u (suc k) [] h = refl
numbered_taken u (suc k) (l ∷ ls) h =
    let p = and_parts (same_name l.0 (name_is.Number u)) (are_numbered (u + 1) ls) h in
    and_from (same_name l.0 (name_is.Number u)) (are_numbered (u + 1) (take k ls)) p.0 (numbered_taken (u + 1) k ls p.1)

from_taken : {A : Type 0} (xs : List A) (n k : ℕ) (ys : List A) → From xs n ys → From xs n (take k ys)
from_taken xs n zero ys h = tt
from_taken xs n (suc k) [] h = tt
from_taken xs n (suc k) (y ∷ ys) h = (h.0, from_taken xs (n + 1) k ys h.1)

mapped_types : (k : ℕ) (ls : List (Name × Ty)) → list_all (λ t. not (is_void t)) (map (λ l. l.1) (take k ls)) ≡ true → list_all (λ l. type_fits l.1) ls ≡ true → list_all (λ l. value_type_fits l.1) (take k ls) ≡ true
mapped_types k ls h d = value_types (take k ls) h (all_taken (λ l. type_fits l.1) k ls d)

module _ (spelling : Token → List ℕ) (m : Module) (f : Function) (h : FitFunction m f) where
  head_builds : Builds spelling head (name_parts f) (λ p. (p.0.ty ≡ f.ret) × (name_by spelling p.1 ≡ f.name))
  unfolding head ignored
  head_builds = builds_as (builds_seq (builds_as {Q = λ u. Unit {0}} builds_never (λ x w. tt))
      (builds_seq (return_builds f.ret h.ret) (builds_gap (codes " ") (builds_weaker {Q = λ t. name_by spelling t ≡ f.name} (global_builds f.name h.name) (λ t e. e.1))))) (λ p w. w.1)

  own_params : list_all (λ l. value_type_fits l.1) (take f.params f.locals) ≡ true
  own_params = mapped_types f.params f.locals h.values h.locals

  declaration_builds : f.blocks ≡ None → declaration_fits f ≡ true → Builds spelling declaration (declaration_parts m f) (IsFunction spelling m f)
  unfolding declaration
  declaration_builds e d =
      let n = (and_parts (f.params == length f.locals) (are_numbered 0 f.locals) d).1 in
      let ps = params_build spelling declared_param nameless_param IsDeclared (take f.params f.locals) (each_declared spelling (take f.params f.locals) own_params) in
      builds_as (behind kind.Declare sort.Word (codes "declare") declare_word (builds_gap (codes " ") (builds_trail (codes "\n") (builds_seq head_builds (builds_seq ps (tail_builds spelling (number_from 0 f.attrs (groups_of m)) h.few))))))
      (λ p w. record {
        name = w.0.1;
        ret = w.0.0;
        params = declared_params spelling 0 (take f.params f.locals) p.1.0 w.1.0 (numbered_taken 0 f.params f.locals n);
        groups = w.1.1;
        blocks = subst (λ o. IsBody spelling m f o None) (sym e) tt;
      })

  definition_builds : (b : Block) (bs : List Block) → f.blocks ≡ Some (b ∷ bs) → Builds spelling definition (definition_parts m f (b ∷ bs)) (IsFunction spelling m f)
  unfolding definition
  definition_builds b bs e =
      let names = all_taken (λ l. name_fits l.0) f.params f.locals h.known.locals in
      let fit = subst (λ o. Each (FitBlock m f) (blocks_or_none o)) e h.blocks in
      let group = group_use (number_from 0 f.attrs (groups_of m)) in
      let params = params_parts named_param (take f.params f.locals) in
      let body = blank ∷ sign (codes "{") ∷ line_end ∷ (blocks_parts m f (b ∷ bs) ++ sign (codes "}") ∷ line_end ∷ []) in
      let same : name_parts f ++ (params ++ (group ++ body)) ≡ (name_parts f ++ (params ++ group)) ++ body =
      sym (append_assoc (name_parts f) (params ++ group) body ∙ ap (λ l. name_parts f ++ l) (append_assoc params group body)) in
      let ps = params_build spelling param named_param (IsParam spelling) (take f.params f.locals) (each_named spelling (take f.params f.locals) own_params names) in
      builds_as (behind kind.Define sort.Word (codes "define") define_word (builds_gap (codes " ") (builds_same same (builds_seq head_builds (builds_seq ps
      (builds_seq (tail_builds spelling (number_from 0 f.attrs (groups_of m)) h.few) (builds_gap (codes " ") (blocks_build spelling m f h.known b bs fit))))))))
      (λ p w. record {
        name = w.0.1;
        ret = w.0.0;
        params = named_params spelling 0 (take f.params f.locals) p.1.0 w.1.0;
        groups = w.1.1.0;
        blocks = subst (λ o. IsBody spelling m f o (Some p.1.1.1)) (sym e) w.1.1.1;
      })

  whole_builds : (o : Option (List Block)) → f.blocks ≡ o → has_block o ≡ true → (not (is_none o) || declaration_fits f) ≡ true → Builds spelling (alt declaration definition) (body_parts m f o) (IsFunction spelling m f)
  whole_builds None e b d = builds_left (declaration_builds e d)
  whole_builds (Some []) e b d = absurd (false≢true b)
  whole_builds (Some (b ∷ bs)) e c d = builds_right (definition_builds b bs e)

  -- ---- what it stands for

  abbrev named : Token → Name
  named = name_by spelling

  labels_are : (u : ℕ) (bs : List Block) (xs : List BlockSyntax) → Stand (IsBlock spelling m f) bs xs → map (label_name named u) xs ≡ map (λ b. b.name) bs
  labels_are u [] [] w = refl
  labels_are u [] (x ∷ xs) w = absurd w
  labels_are u (b ∷ bs) [] w = absurd w
  labels_are u (b ∷ bs) (x ∷ xs) w = same_cons (own x.label w.0.label) (labels_are u bs xs w.1)
    where
      own : (o : Option Token) → IsSomeOf (λ t. named t ≡ b.name) o → name_or named u o ≡ b.name
      own None w = absurd w
      own (Some t) w = w

  body_labels_are : (u : ℕ) (o : Option (List Block)) (xs : Option (List BlockSyntax)) → IsBody spelling m f o xs → body_labels named u xs ≡ map (λ b. b.name) (blocks_or_none o)
  body_labels_are u None None w = refl
  body_labels_are u None (Some xs) w = absurd w
  body_labels_are u (Some bs) None w = absurd w
  body_labels_are u (Some bs) (Some xs) w = labels_are u bs xs w

  body_locals_are : (o : Option (List Block)) (xs : Option (List BlockSyntax)) → IsBody spelling m f o xs → Each (FitBlock m f) (blocks_or_none o) → Ascends f.params (flat_map block_results (blocks_or_none o)) (length f.locals)
      → From f.locals f.params (body_locals named xs) × (length f.locals ≡ f.params + length (body_locals named xs))
  body_locals_are None None w k a = (tt, let e = a in omega arith)
  body_locals_are None (Some xs) w k a = absurd w
  body_locals_are (Some bs) None w k a = absurd w
  body_locals_are (Some bs) (Some xs) w k a = blocks_local spelling m f h.locals bs xs f.params (length f.locals) w k a

  body_means : (s : Sense) → Tells spelling m f s → (u v : ℕ) (o : Option (List Block)) (xs : Option (List BlockSyntax)) → IsBody spelling m f o xs → From (blocks_of f) 0 (blocks_or_none o) → Ascends v (flat_map block_results (blocks_or_none o)) (length f.locals)
      → (body_faults s u v xs ≡ []) × (body_of s u v xs ≡ o)
  body_means s r u v None None w g a = (refl, refl)
  body_means s r u v None (Some xs) w g a = absurd w
  body_means s r u v (Some bs) None w g a = absurd w
  body_means s r u v (Some bs) (Some xs) w g a = let b = blocks_mean spelling m f s r bs xs u v (length f.locals) 0 w g a in (b.0, ap Some b.1)

  all_results : Ascends f.params (flat_map block_results (blocks_of f)) (length f.locals)
  all_results = subst (λ rs. Ascends f.params rs (length f.locals)) (blocks_define (blocks_of f)) (results_end f h.params h.in_range h.in_order h.once)

  abbrev first_locals : List (Name × Ty)
  first_locals = take f.params f.locals

  abbrev block_names : List Name
  block_names = map (λ b. b.name) (blocks_of f)

  module _ (x : FunctionSyntax) (w : IsFunction spelling m f x) where
    locals_whole : locals_of named x ≡ f.locals
    locals_whole =
        let body = body_locals_are f.blocks x.blocks w.blocks h.blocks all_results in
        let count = taken_length f.params f.locals h.params in
        let l = length-append first_locals (body_locals named x.blocks) in
        let e = body.1 in
        ap (λ ls. ls ++ body_locals named x.blocks) (params_are spelling 0 first_locals x.params w.params)
        ∙ whole_from f.locals (first_locals ++ body_locals named x.blocks) (omega arith)
        (From-append f.locals 0 f.params first_locals (body_locals named x.blocks) (omega arith) (from_taken f.locals 0 f.params f.locals (from_itself f.locals)) body.0)

    count_is : length x.params ≡ f.params
    count_is = params_count spelling 0 first_locals x.params w.params ∙ taken_length f.params f.locals h.params

    -- names of the function stand for what has them
    abbrev own_sense : Sense → Sense
    own_sense g = within g f.locals block_names

    own_tells : (g : Sense) → TellsModule spelling m g → Tells spelling m f (own_sense g)
    own_tells g r = record {
      name = r.name;
      spelled = r.spelled;
      constants = r.constants;
      functions = r.functions;
      values = λ k l e. let i = mapped_get (λ l. l.0) f.locals k l e in (
        placed (map (λ l. l.0) f.locals) k l.0 (distinct_left (map (λ l. l.0) f.locals) block_names h.distinct) i,
        apart_left (map (λ l. l.0) f.locals) block_names k l.0 h.distinct i,
      );
      labels = λ k b e. let i = mapped_get (λ b. b.name) (blocks_of f) k b e in (
        placed block_names k b.name (distinct_right (map (λ l. l.0) f.locals) block_names h.distinct) i,
        apart_right (map (λ l. l.0) f.locals) block_names k b.name h.distinct i,
      );
    }

    inside_is : (g : Sense) → TellsModule spelling m g → inside g x ≡ own_sense g
    inside_is g r =
        ap (λ n. within g (locals_of n x) (body_labels n (behind_params 0 x.params) x.blocks)) r.name
        ∙ (ap (λ l. within g l (body_labels named (behind_params 0 x.params) x.blocks)) locals_whole
        ∙ ap (within g f.locals) (body_labels_are (behind_params 0 x.params) f.blocks x.blocks w.blocks))

    body_meant : (g : Sense) → TellsModule spelling m g → (body_faults (own_sense g) (behind_params 0 x.params) (length x.params) x.blocks ≡ []) × (body_of (own_sense g) (behind_params 0 x.params) (length x.params) x.blocks ≡ f.blocks)
    body_meant g r = body_means (own_sense g) (own_tells g r) (behind_params 0 x.params) (length x.params) f.blocks x.blocks w.blocks (from_itself (blocks_of f))
        (subst (λ v. Ascends v (flat_map block_results (blocks_of f)) (length f.locals)) (sym count_is) all_results)

    faultless : (g : Sense) → TellsModule spelling m g → function_faults g x ≡ []
    faultless g r =
        let params = params_new m f (own_sense g) (own_tells g r) 0 0 first_locals x.params w.params (from_taken f.locals 0 f.params f.locals (from_itself f.locals)) in
        let groups = groups_mean m g r f.attrs (number_from 0 f.attrs (groups_of m)) h.group x.groups w.groups in
        ap (λ s. inner_faults s x) (inside_is g r) ∙ none_both params (none_both groups.0 (body_meant g r).0)

    same_function : {n n' : Name} {t t' : Ty} {k k' : ℕ} {a a' : List Attr} {b b' : Option (List Block)} → n ≡ n' → t ≡ t' → k ≡ k' → a ≡ a' → b ≡ b'
        → ◌≡◌ {A = Function} (record { name = n; ret = t; params = k; locals = f.locals; attrs = a; blocks = b }) (record { name = n'; ret = t'; params = k'; locals = f.locals; attrs = a'; blocks = b' })
    same_function e d i j l = cc

    meant : (g : Sense) → TellsModule spelling m g → function_of g x ≡ f
    meant g r =
        let groups = groups_mean m g r f.attrs (number_from 0 f.attrs (groups_of m)) h.group x.groups w.groups in
        let name : g.name x.name ≡ f.name = ap (λ n. n x.name) r.name ∙ w.name in
        ap (λ s. inner_of s (locals_of g.name x) x) (inside_is g r)
        ∙ (ap (λ n. inner_of (own_sense g) (locals_of n x) x) r.name
        ∙ (ap (λ l. inner_of (own_sense g) l x) locals_whole
        ∙ same_function name w.ret count_is groups.1 (body_meant g r).1))

  -- The parts of a function are a sentence, and its tree stands for the function.
  pub function_builds : Builds spelling (alt declaration definition) (function_parts m f) (MeansFunction spelling m f)
  function_builds = builds_weaker (whole_builds f.blocks refl h.body h.declared) (λ x w. record { name = w.name; means = λ g r. (faultless x w g r, meant x w g r) })
