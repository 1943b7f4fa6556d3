-- The parts of functions: parameters and bodies, their types, names and definitions.
use Rattle.std.specs.Prelude.{flat_map}
use Rattle.std.proofs.Common.{◌≡◌, ℕ, suc, ◌+◌, ◌^◌, ◌<◌, ◌≤◌, true, Option, None, Some, List, [], ◌∷◌, ◌++◌, length, map, refl, sym, ap, ◌∙◌, subst, arith}
use Rattle.std.proofs.lemmas.Bool.{and_from, eq-eqb, lt-ltb}
use Rattle.std.proofs.lemmas.List.{map-append}
use Rattle.ir_values.specs.declared.name.Name.{Name}
use Rattle.ir_values.specs.declared.name.Name.TheVariants.{Number}
use Rattle.ir_values.specs.declared.ty.Ty.{Ty}
use Rattle.ir_module.specs.Numbered.{same_name}
use Rattle.ir_module.specs.Printable.{name_fits, are_numbered}
use Rattle.ir_tokens.specs.declared.token.Token.{Token}
use Rattle.ir_grammar.specs.declared.tree.BlockSyntax.{BlockSyntax}
use Rattle.ir_grammar.specs.declared.tree.LineSyntax.{LineSyntax}
use Rattle.ir_grammar.specs.declared.tree.ParamSyntax.{ParamSyntax}
use Rattle.ir_grammar.specs.declared.tree.PhiSyntax.{PhiSyntax}
use Rattle.ir_names.specs.Blocks.{name_or, blocks_of as blocks_named, behind_block}
use Rattle.ir_names.specs.Functions.{behind_param, behind_params, params_locals, result_locals, line_locals, phi_local, block_locals, body_locals, label_name, body_labels, param_token, params_faults, body_faults}
use Rattle.ir_names.specs.Instructions.{duplicate}
use Rattle.ir_names.specs.Sense.{Sense}
use Rattle.read_modules.proofs.Each.{Each, none_left, none_right}
use Rattle.read_modules.proofs.Distinct.{Definition, One, AllNew, ones, others, ones-append, others-append}
use Rattle.read_modules.proofs.KeptItems.{Nameless}
use Rattle.read_modules.proofs.RightSteps.{new_name, phi_definition, result_definitions, line_definitions, block_definitions, blocks_new}

-- Parameters.

pub length-params : (name : Token → Name) (unnamed : ℕ) (ps : List ParamSyntax) → length (params_locals name unnamed ps) ≡ length ps
length-params name unnamed [] = refl
length-params name unnamed (p ∷ ps) = ap suc (length-params name (behind_param unnamed p.name) ps)

pub params_types : (P : Ty → Type 0) (name : Token → Name) (unnamed : ℕ) (ps : List ParamSyntax) → Each (λ p. P p.ty) ps → Each (λ l. P l.1) (params_locals name unnamed ps)
params_types P name unnamed [] h = tt
params_types P name unnamed (p ∷ ps) h = (h.0, params_types P name (behind_param unnamed p.name) ps h.1)

behind_more : (unnamed : ℕ) (o : Option Token) → behind_param unnamed o ≤ unnamed + 1
behind_more unnamed None = omega arith
behind_more unnamed (Some t) = omega arith

pub behind_all : (unnamed : ℕ) (ps : List ParamSyntax) → behind_params unnamed ps ≤ unnamed + length ps
behind_all unnamed [] = omega arith
behind_all unnamed (p ∷ ps) = let a = behind_more unnamed p.name in let b = behind_all (behind_param unnamed p.name) ps in omega arith

pub name_or_fits : (name : Token → Name) → ((t : Token) → name_fits (name t) ≡ true) → (unnamed : ℕ) (o : Option Token) → unnamed < 2 ^ 32 → name_fits (name_or name unnamed o) ≡ true
name_or_fits name h unnamed None l = lt-ltb unnamed (2 ^ 32) l
name_or_fits name h unnamed (Some t) l = h t

pub params_names : (name : Token → Name) → ((t : Token) → name_fits (name t) ≡ true) → (unnamed : ℕ) (ps : List ParamSyntax) → unnamed + length ps < 2 ^ 32 → Each (λ l. name_fits l.0 ≡ true) (params_locals name unnamed ps)
params_names name h unnamed [] l = tt
params_names name h unnamed (p ∷ ps) l =
    let a = behind_more unnamed p.name in
    (name_or_fits name h unnamed p.name (omega arith), params_names name h (behind_param unnamed p.name) ps (omega arith))

pub nameless_numbered : (name : Token → Name) (unnamed : ℕ) (ps : List ParamSyntax) → Each Nameless ps → are_numbered unnamed (params_locals name unnamed ps ++ []) ≡ true
nameless_numbered name unnamed [] h = refl
nameless_numbered name unnamed (p ∷ ps) h =
    let e = sym h.0.none in
    and_from _ _
    (subst (λ o. same_name (name_or name unnamed o) (Number unnamed) ≡ true) e (eq-eqb unnamed unnamed refl))
    (subst (λ o. are_numbered (unnamed + 1) (params_locals name (behind_param unnamed o) ps ++ []) ≡ true) e (nameless_numbered name (unnamed + 1) ps h.1))

abbrev pub params_definitions : (Token → Name) → ℕ → List ParamSyntax → List Definition
params_definitions name unnamed [] = []
params_definitions name unnamed (p ∷ ps) = One (name_or name unnamed p.name) ∷ params_definitions name (behind_param unnamed p.name) ps

pub params_new : (s : Sense) (unnamed v w : ℕ) (ps : List ParamSyntax) → w ≡ v + length ps → params_faults s unnamed v ps ≡ [] → AllNew s.value s.label v 0 (params_definitions s.name unnamed ps) w 0
params_new s unnamed v w [] l e = (omega arith, refl)
params_new s unnamed v w (p ∷ ps) l e = (
  new_name s _ (name_or s.name unnamed p.name) v 0 (none_left _ _ e),
  params_new s (behind_param unnamed p.name) (v + 1) w ps (omega arith) (none_right (duplicate s (param_token p.first p.name) (name_or s.name unnamed p.name) v 0) _ e),
)

pub params_ones : (name : Token → Name) (unnamed : ℕ) (ps : List ParamSyntax) → ones (params_definitions name unnamed ps) ≡ map (λ l. l.0) (params_locals name unnamed ps)
params_ones name unnamed [] = refl
params_ones name unnamed (p ∷ ps) = ap (λ l. name_or name unnamed p.name ∷ l) (params_ones name (behind_param unnamed p.name) ps)

pub params_others : (name : Token → Name) (unnamed : ℕ) (ps : List ParamSyntax) → others (params_definitions name unnamed ps) ≡ []
params_others name unnamed [] = refl
params_others name unnamed (p ∷ ps) = params_others name (behind_param unnamed p.name) ps

-- Bodies.

phis_ones : (name : Token → Name) (ps : List PhiSyntax) → ones (map (phi_definition name) ps) ≡ map (λ l. l.0) (map (phi_local name) ps)
phis_ones name [] = refl
phis_ones name (p ∷ ps) = ap (λ l. name p.result ∷ l) (phis_ones name ps)

phis_others : (name : Token → Name) (ps : List PhiSyntax) → others (map (phi_definition name) ps) ≡ []
phis_others name [] = refl
phis_others name (p ∷ ps) = phis_others name ps

result_ones : (name : Token → Name) (l : LineSyntax) (o : Option Token) → ones (result_definitions name o) ≡ map (λ l. l.0) (result_locals name l.what o)
result_ones name l None = refl
result_ones name l (Some t) = refl

result_others : (name : Token → Name) (o : Option Token) → others (result_definitions name o) ≡ []
result_others name None = refl
result_others name (Some t) = refl

lines_ones : (name : Token → Name) (ls : List LineSyntax) → ones (flat_map (line_definitions name) ls) ≡ map (λ l. l.0) (flat_map (line_locals name) ls)
lines_ones name [] = refl
lines_ones name (l ∷ ls) =
    ones-append (line_definitions name l) (flat_map (line_definitions name) ls)
    ∙ (ap (λ a. a ++ ones (flat_map (line_definitions name) ls)) (result_ones name l l.result)
    ∙ (ap (λ b. map (λ l. l.0) (line_locals name l) ++ b) (lines_ones name ls)
    ∙ sym (map-append (λ l. l.0) (line_locals name l) (flat_map (line_locals name) ls))))

lines_others : (name : Token → Name) (ls : List LineSyntax) → others (flat_map (line_definitions name) ls) ≡ []
lines_others name [] = refl
lines_others name (l ∷ ls) =
    others-append (line_definitions name l) (flat_map (line_definitions name) ls)
    ∙ (ap (λ a. a ++ others (flat_map (line_definitions name) ls)) (result_others name l.result) ∙ lines_others name ls)

block_ones : (name : Token → Name) (unnamed : ℕ) (k : BlockSyntax) → ones (block_definitions name unnamed k) ≡ map (λ l. l.0) (block_locals name k)
block_ones name unnamed k =
    ones-append (map (phi_definition name) k.lines.phis) (flat_map (line_definitions name) k.lines.insts)
    ∙ (ap (λ a. a ++ ones (flat_map (line_definitions name) k.lines.insts)) (phis_ones name k.lines.phis)
    ∙ (ap (λ b. map (λ l. l.0) (map (phi_local name) k.lines.phis) ++ b) (lines_ones name k.lines.insts)
    ∙ sym (map-append (λ l. l.0) (map (phi_local name) k.lines.phis) (flat_map (line_locals name) k.lines.insts))))

block_others : (name : Token → Name) (unnamed : ℕ) (k : BlockSyntax) → others (block_definitions name unnamed k) ≡ label_name name unnamed k ∷ []
block_others name unnamed k = ap (λ l. label_name name unnamed k ∷ l)
    (others-append (map (phi_definition name) k.lines.phis) (flat_map (line_definitions name) k.lines.insts)
    ∙ (ap (λ a. a ++ others (flat_map (line_definitions name) k.lines.insts)) (phis_others name k.lines.phis) ∙ lines_others name k.lines.insts))

blocks_ones : (name : Token → Name) (unnamed : ℕ) (ks : List BlockSyntax) → ones (flat_map (block_definitions name unnamed) ks) ≡ map (λ l. l.0) (flat_map (block_locals name) ks)
blocks_ones name unnamed [] = refl
blocks_ones name unnamed (k ∷ ks) =
    ones-append (block_definitions name unnamed k) (flat_map (block_definitions name unnamed) ks)
    ∙ (ap (λ a. a ++ ones (flat_map (block_definitions name unnamed) ks)) (block_ones name unnamed k)
    ∙ (ap (λ b. map (λ l. l.0) (block_locals name k) ++ b) (blocks_ones name unnamed ks)
    ∙ sym (map-append (λ l. l.0) (block_locals name k) (flat_map (block_locals name) ks))))

blocks_others : (name : Token → Name) (unnamed : ℕ) (ks : List BlockSyntax) → others (flat_map (block_definitions name unnamed) ks) ≡ map (label_name name unnamed) ks
blocks_others name unnamed [] = refl
blocks_others name unnamed (k ∷ ks) =
    others-append (block_definitions name unnamed k) (flat_map (block_definitions name unnamed) ks)
    ∙ (ap (λ a. a ++ others (flat_map (block_definitions name unnamed) ks)) (block_others name unnamed k)
    ∙ ap (λ b. label_name name unnamed k ∷ b) (blocks_others name unnamed ks))

abbrev pub body_definitions : (Token → Name) → ℕ → Option (List BlockSyntax) → List Definition
body_definitions name unnamed None = []
body_definitions name unnamed (Some ks) = flat_map (block_definitions name unnamed) ks

pub body_ones : (name : Token → Name) (unnamed : ℕ) (o : Option (List BlockSyntax)) → ones (body_definitions name unnamed o) ≡ map (λ l. l.0) (body_locals name o)
body_ones name unnamed None = refl
body_ones name unnamed (Some ks) = blocks_ones name unnamed ks

pub body_others : (name : Token → Name) (unnamed : ℕ) (o : Option (List BlockSyntax)) → others (body_definitions name unnamed o) ≡ body_labels name unnamed o
body_others name unnamed None = refl
body_others name unnamed (Some ks) = blocks_others name unnamed ks

pub body_new : (s : Sense) (unnamed v : ℕ) (o : Option (List BlockSyntax)) → body_faults s unnamed v o ≡ [] → (w c : ℕ) × AllNew s.value s.label v 0 (body_definitions s.name unnamed o) w c
body_new s unnamed v None e = (v, 0, (refl, refl))
body_new s unnamed v (Some ks) e = blocks_new s unnamed v 0 ks e

pub labels_are : (s : Sense) (unnamed v : ℕ) (ks : List BlockSyntax) → map (λ b. b.name) (blocks_named s unnamed v ks) ≡ map (label_name s.name unnamed) ks
labels_are s unnamed v [] = refl
labels_are s unnamed v (k ∷ ks) = ap (λ l. label_name s.name unnamed k ∷ l) (labels_are s unnamed (behind_block v k) ks)
