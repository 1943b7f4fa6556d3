-- The type of a function and the class of a declared one (QIR specification, 'Runtime Functions' and 'Quantum Instruction Set').
use Rattle.std.specs.Prelude.{Option, List, map, take}
use Rattle.ir_module.specs.declared.tree.Function.{Function}
use Rattle.ir_values.specs.declared.class.Class.{Class}
use Rattle.ir_values.specs.declared.sig.TyWord.{TyWord}
use Rattle.ir_values.specs.declared.ty.Ty.{Ty}
use Rattle.ir_values.specs.Calls.{class_of}
use Rattle.ir_values.specs.Names.{name_text}
use Rattle.ir_values.specs.Types.{signature}

-- the types of its parameters
abbrev pub parameter_types : Function → List Ty
parameter_types f = map (λ l. l.1) (take f.params f.locals)

-- the words of its type
abbrev pub type_words : Function → List TyWord
type_words f = signature f.ret (parameter_types f)

-- what it does where it is declared, if anything
abbrev pub class_of_function : Function → Option Class
class_of_function f = class_of (name_text f.name) (type_words f)
