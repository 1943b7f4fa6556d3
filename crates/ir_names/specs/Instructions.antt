-- Phis and instructions. At each place v values and b labels of the function are defined before.
use Rattle.std.specs.Prelude.{ℕ, ◌+◌, Bool, ◌||◌, ◌==◌, if◌then◌else◌, map, Option, None, Some, List, [], ◌∷◌, ◌++◌}
use Rattle.std.specs.List.{flat_map}
use Rattle.ir_tokens.specs.declared.kind.Kind.TheVariants as kind
use Rattle.ir_tokens.specs.declared.token.Token.{Token}
use Rattle.ir_grammar.specs.declared.tree.ArgSyntax.{ArgSyntax}
use Rattle.ir_grammar.specs.declared.tree.EntrySyntax.{EntrySyntax}
use Rattle.ir_grammar.specs.declared.tree.InstSyntax.{InstSyntax}
use Rattle.ir_grammar.specs.declared.tree.InstSyntax.TheVariants as syntax
use Rattle.ir_grammar.specs.declared.tree.LineSyntax.{LineSyntax}
use Rattle.ir_grammar.specs.declared.tree.PhiSyntax.{PhiSyntax}
use Rattle.ir_tokens.specs.code.Kinds.{code}
use Rattle.ir_module.specs.declared.tree.Callee.{Callee}
use Rattle.ir_module.specs.declared.tree.Callee.TheVariants as callee
use Rattle.ir_module.specs.declared.tree.Inst.{Inst}
use Rattle.ir_module.specs.declared.tree.InstKind.{InstKind}
use Rattle.ir_module.specs.declared.tree.InstKind.TheVariants as inst
use Rattle.ir_module.specs.declared.tree.Operand.{Operand}
use Rattle.ir_module.specs.declared.tree.Phi.{Phi}
use Rattle.ir_values.specs.declared.ty.Ty.{Ty}
use Rattle.ir_values.specs.declared.ids.BlockId.{BlockId}
use Rattle.ir_values.specs.declared.ids.LocalId.{LocalId}
use Rattle.ir_values.specs.declared.name.Name.{Name}
use Rattle.ir_names.specs.declared.fault.Fault.{Fault}
use Rattle.ir_names.specs.declared.fault.NameCode.TheVariants.{Duplicate}
use Rattle.ir_names.specs.Faults.{fault_if, unknown}
use Rattle.ir_names.specs.Operands.{operand_faults, operand_of}
use Rattle.ir_names.specs.Sense.{Sense, is_before, func_id, local_id, block_id}

-- Values and labels share one space of names: a name has a definition before where its first value or its first label is one
-- of those before.
abbrev pub duplicate : Sense → Token → Name → ℕ → ℕ → List Fault
duplicate s at name v b = fault_if (is_before (s.value name) v || is_before (s.label name) b) Duplicate at

-- Calls. Their groups must exist, and are dropped.

abbrev pub group_faults : Sense → Token → List Fault
group_faults s t = unknown t (s.group t)

abbrev pub arg_faults : Sense → ArgSyntax → List Fault
arg_faults s a = operand_faults s a.value

abbrev pub arg_of : Sense → ArgSyntax → Ty × Operand
arg_of s a = (a.ty, operand_of s a.value)

-- a global name calls a function, and a local name a value
abbrev pub is_global : Token → Bool
is_global t = code t.kind == code kind.Global

abbrev pub callee_faults : Sense → Token → List Fault
callee_faults s t = if is_global t then unknown t (s.function (s.name t)) else unknown t (s.value (s.name t))

abbrev pub callee_of : Sense → Token → Callee
callee_of s t = if is_global t then callee.Func (func_id (s.function (s.name t))) else callee.Local (local_id (s.value (s.name t)))

abbrev pub call_faults : Sense → Token → List ArgSyntax → List Token → List Fault
call_faults s t args groups = callee_faults s t ++ (flat_map (arg_faults s) args ++ flat_map (group_faults s) groups)

abbrev pub call_of : Sense → Ty → Token → List ArgSyntax → InstKind
call_of s ty t args = inst.Call ty (callee_of s t) (map (arg_of s) args)

-- Instructions.

abbrev pub what_faults : Sense → InstSyntax → List Fault
what_faults s (syntax.Binary o flags t a b) = operand_faults s a ++ operand_faults s b
what_faults s (syntax.Icmp p t a b) = operand_faults s a ++ operand_faults s b
what_faults s (syntax.Convert c t a to) = operand_faults s a
what_faults s (syntax.Select c t a u b) = operand_faults s c ++ (operand_faults s a ++ operand_faults s b)
what_faults s (syntax.Call t name args groups) = call_faults s name args groups

abbrev pub what_of : Sense → InstSyntax → InstKind
what_of s (syntax.Binary o flags t a b) = inst.Binary o flags t (operand_of s a) (operand_of s b)
what_of s (syntax.Icmp p t a b) = inst.Icmp p t (operand_of s a) (operand_of s b)
what_of s (syntax.Convert c t a to) = inst.Convert c t (operand_of s a) to
what_of s (syntax.Select c t a u b) = inst.Select (operand_of s c) t (operand_of s a) u (operand_of s b)
what_of s (syntax.Call t name args groups) = call_of s t name args

-- the name that an instruction may define
abbrev pub result_faults : Sense → ℕ → ℕ → Option Token → List Fault
result_faults s v b None = []
result_faults s v b (Some t) = duplicate s t (s.name t) v b

abbrev pub result_of : ℕ → Option Token → Option LocalId
result_of v None = None
result_of v (Some t) = Some (record { 0 = v })

abbrev pub behind : ℕ → Option Token → ℕ
behind v None = v
behind v (Some t) = v + 1

abbrev pub line_faults : Sense → ℕ → ℕ → LineSyntax → List Fault
line_faults s v b l = result_faults s v b l.result ++ what_faults s l.what

abbrev pub line_of : Sense → ℕ → LineSyntax → Inst
line_of s v l = record { result = result_of v l.result; what = what_of s l.what }

abbrev pub lines_faults : Sense → ℕ → ℕ → List LineSyntax → List Fault
lines_faults s v b [] = []
lines_faults s v b (l ∷ ls) = line_faults s v b l ++ lines_faults s (behind v l.result) b ls

abbrev pub insts_of : Sense → ℕ → List LineSyntax → List Inst
insts_of s v [] = []
insts_of s v (l ∷ ls) = line_of s v l ∷ insts_of s (behind v l.result) ls

-- how many values are defined behind instructions
abbrev pub behind_lines : ℕ → List LineSyntax → ℕ
behind_lines v [] = v
behind_lines v (l ∷ ls) = behind_lines (behind v l.result) ls

-- Phis.

abbrev pub entry_faults : Sense → EntrySyntax → List Fault
entry_faults s e = operand_faults s e.value ++ unknown e.from (s.label (s.name e.from))

abbrev pub entry_of : Sense → EntrySyntax → Operand × BlockId
entry_of s e = (operand_of s e.value, block_id (s.label (s.name e.from)))

abbrev pub phi_faults : Sense → ℕ → ℕ → PhiSyntax → List Fault
phi_faults s v b p = duplicate s p.result (s.name p.result) v b ++ flat_map (entry_faults s) p.entries

abbrev pub phi_of : Sense → ℕ → PhiSyntax → Phi
phi_of s v p = record { result = record { 0 = v }; entries = map (entry_of s) p.entries }

abbrev pub phis_faults : Sense → ℕ → ℕ → List PhiSyntax → List Fault
phis_faults s v b [] = []
phis_faults s v b (p ∷ ps) = phi_faults s v b p ++ phis_faults s (v + 1) b ps

abbrev pub phis_of : Sense → ℕ → List PhiSyntax → List Phi
phis_of s v [] = []
phis_of s v (p ∷ ps) = phi_of s v p ∷ phis_of s (v + 1) ps

abbrev pub behind_phis : ℕ → List PhiSyntax → ℕ
behind_phis v [] = v
behind_phis v (p ∷ ps) = behind_phis (v + 1) ps
