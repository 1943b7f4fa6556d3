-- The text of a program that is generated for a number.
use Rattle.std.specs.Prelude.{ℕ, List, [], ◌∷◌, ◌++◌, codes, decimal, flat_map}

-- each line with its line feed
abbrev pub in_lines : List (List ℕ) → List ℕ
in_lines lines = flat_map (λ line. line ++ codes "\n") lines

-- the loop's head, up to the number of turns
unfoldable pub before_turns : List ℕ
before_turns =
    in_lines (codes "define i64 @main() #0 {"
    ∷ codes "entry:"
    ∷ codes "  call void @__quantum__rt__initialize(i8* null)"
    ∷ codes "  br label %head"
    ∷ codes "head:"
    ∷ codes "  %i = phi i64 [ 0, %entry ], [ %next, %join ]"
    ∷ [])
    ++ codes "  %more = icmp slt i64 %i, "

-- the end of that line, and a turn of the loop: a new qubit, that is flipped in every second turn, is measured, flipped back where it was
-- 1, and released; the result is recorded
unfoldable pub after_turns : List ℕ
after_turns =
    in_lines (codes ""
    ∷ codes "  br i1 %more, label %turn, label %done"
    ∷ codes "turn:"
    ∷ codes "  %q = call %Qubit* @__quantum__rt__qubit_allocate()"
    ∷ codes "  %low = and i64 %i, 1"
    ∷ codes "  %odd = icmp eq i64 %low, 1"
    ∷ codes "  br i1 %odd, label %flip, label %look"
    ∷ codes "flip:"
    ∷ codes "  call void @__quantum__qis__x__body(%Qubit* %q)"
    ∷ codes "  br label %look"
    ∷ codes "look:"
    ∷ codes "  %r = call %Result* @__quantum__qis__m__body(%Qubit* %q)"
    ∷ codes "  %b = call i1 @__quantum__rt__read_result(%Result* %r)"
    ∷ codes "  br i1 %b, label %fix, label %join"
    ∷ codes "fix:"
    ∷ codes "  call void @__quantum__qis__x__body(%Qubit* %q)"
    ∷ codes "  br label %join"
    ∷ codes "join:"
    ∷ codes "  call void @__quantum__rt__qubit_release(%Qubit* %q)"
    ∷ codes "  call void @__quantum__rt__result_record_output(%Result* %r, i8* null)"
    ∷ codes "  %next = add i64 %i, 1"
    ∷ codes "  br label %head"
    ∷ codes "done:"
    ∷ codes "  ret i64 0"
    ∷ codes "}"
    ∷ [])

-- the functions that are called, and the attribute of the entry
unfoldable pub declarations : List ℕ
declarations =
    in_lines (codes "declare void @__quantum__rt__initialize(i8*)"
    ∷ codes "declare %Qubit* @__quantum__rt__qubit_allocate()"
    ∷ codes "declare void @__quantum__rt__qubit_release(%Qubit*)"
    ∷ codes "declare i1 @__quantum__rt__read_result(%Result*)"
    ∷ codes "declare void @__quantum__rt__result_record_output(%Result*, i8*)"
    ∷ codes "declare void @__quantum__qis__x__body(%Qubit*)"
    ∷ codes "declare %Result* @__quantum__qis__m__body(%Qubit*)"
    ∷ codes "attributes #0 = { \"entry_point\" }"
    ∷ [])

-- the program that makes so many turns
unfoldable pub generated : ℕ → List ℕ
generated turns = before_turns ++ decimal turns ++ (after_turns ++ declarations)
