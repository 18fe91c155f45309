-- In a program that is made stands no comment, no PARALLEL DO and no C$PED REJECT line.
use Rattle.std.proofs.Common.{◌≡◌, refl, sym, subst, ℕ, ◌%◌, ◌==◌, Bool, true, false, List, [], ◌∷◌, ◌++◌, codes}
use Rattle.std.specs.Prelude.{◌&&◌, if◌then◌else◌}
use Rattle.std.specs.List.{AllByRecursion, list_all, flat_map, range_with_len}
use Rattle.std.specs.Str.Lines.{lines}
use Rattle.std.specs.Fmt.{decimal}
use Rattle.ped_gen.specs.Generated.{nest, assignment, front, later_nest, program}
use Rattle.ped_tree.specs.Tree.{ProgramTree}
use Rattle.ped_tree.specs.Grammar.Characters.{is_printable, is_quoted, kept}
use Rattle.ped_tree.specs.Grammar.Columns.{is_comment, statement_columns}
use Rattle.ped_tree.specs.Grammar.Reading.{Reads}
use Rattle.ped_session.specs.ped_parse.specs.ped_lines.proofs.PrintedLaws.Lines.{IsLine, printable_line, lines_written}
use Rattle.ped_answer.proofs.MadeScripts.{decimal_printable}
use Rattle.ped_answer.proofs.BareTexts.{AreBare, IsBareLine, joined, bare_program}

-- a line that is made
record IsPlain (l : List ℕ) : Type 0 where
  whole : IsLine l
  plain : IsBareLine l

abbrev ArePlain : List (List ℕ) → Type 0
ArePlain = AllByRecursion IsPlain

-- no comment begins so, and no statement that begins with P

outer_do : (bounds : List ℕ) → IsBareLine (codes "      DO I = " ++ bounds)
unfolding is_comment statement_columns is_quoted kept
outer_do bounds = record { uncommented = refl; no_p = λ more. refl }

inner_do : (bounds : List ℕ) → IsBareLine (codes "        DO J = " ++ bounds)
unfolding is_comment statement_columns is_quoted kept
inner_do bounds = record { uncommented = refl; no_p = λ more. refl }

inner_end : IsBareLine (codes "        END DO")
unfolding is_comment statement_columns is_quoted kept
inner_end = record { uncommented = refl; no_p = λ more. refl }

outer_end : IsBareLine (codes "      END DO")
unfolding is_comment statement_columns is_quoted kept
outer_end = record { uncommented = refl; no_p = λ more. refl }

program_end : IsBareLine (codes "      END")
unfolding is_comment statement_columns is_quoted kept
program_end = record { uncommented = refl; no_p = λ more. refl }

of_arrays : IsBareLine (codes "      INTEGER A(10,10), B(10,10)")
unfolding is_comment statement_columns is_quoted kept
of_arrays = record { uncommented = refl; no_p = λ more. refl }

of_save : IsBareLine (codes "      SAVE A, B")
unfolding is_comment statement_columns is_quoted kept
of_save = record { uncommented = refl; no_p = λ more. refl }

to_a : (rest : List ℕ) → IsBareLine (codes "          A(I,J) = " ++ rest)
unfolding is_comment statement_columns is_quoted kept
to_a rest = record { uncommented = refl; no_p = λ more. refl }

to_b : (rest : List ℕ) → IsBareLine (codes "          B(I,J) = " ++ rest)
unfolding is_comment statement_columns is_quoted kept
to_b rest = record { uncommented = refl; no_p = λ more. refl }

-- the assignment of a nest
record IsAssignment (text : List ℕ) : Type 0 where
  printable : list_all is_printable text ≡ true
  plain : IsBareLine (codes "          " ++ text)

printable_both : (xs ys : List ℕ) → list_all is_printable xs ≡ true → list_all is_printable ys ≡ true → list_all is_printable (xs ++ ys) ≡ true
printable_both [] ys p q = q
printable_both (x ∷ xs) ys p q = by (is_printable x) (list_all is_printable xs) (list_all is_printable (xs ++ ys)) p (λ all. printable_both xs ys all q)
  where
    by : (a b c : Bool) → (a && b) ≡ true → (b ≡ true → c ≡ true) → (a && c) ≡ true
    by true b c h more = more h
    by false b c h more = absurd cc

one_of : (a b : Bool) (x y z : List ℕ) → IsAssignment x → IsAssignment y → IsAssignment z → IsAssignment (if a then x else if b then y else z)
one_of true b x y z p q r = p
one_of false true x y z p q r = q
one_of false false x y z p q r = r

abbrev along_both : List ℕ
along_both = codes "A(I,J) = MOD(A(I-1,J)+A(I,J-1),1000)"

abbrev falling : ℕ → List ℕ
falling k = codes "A(I,J) = MOD(A(I-1,J+1)+" ++ decimal k ++ codes ",1000)"

abbrev in_place : ℕ → List ℕ
in_place k = codes "B(I,J) = A(I,J)+" ++ decimal k

assigned : (k : ℕ) → IsAssignment (assignment k)
assigned k =
    one_of (k % 3 == 1) (k % 3 == 2) along_both (falling k) (in_place k)
    (record { printable = refl; plain = to_a (codes "MOD(A(I-1,J)+A(I,J-1),1000)") })
    (record { printable = printable_both (decimal k) (codes ",1000)") (decimal_printable k) refl; plain = to_a (codes "MOD(A(I-1,J+1)+" ++ decimal k ++ codes ",1000)") })
    (record { printable = decimal_printable k; plain = to_b (codes "A(I,J)+" ++ decimal k) })

-- the lines of a program that is made

nest_lines : (bounds text : List ℕ) → list_all is_printable bounds ≡ true → IsAssignment text → ArePlain (nest bounds text)
nest_lines bounds text p a =
    let outer : IsPlain (codes "      DO I = " ++ bounds) = record { whole = printable_line (codes "      DO I = " ++ bounds) p; plain = outer_do bounds } in
    let inner : IsPlain (codes "        DO J = " ++ bounds) = record { whole = printable_line (codes "        DO J = " ++ bounds) p; plain = inner_do bounds } in
    let body : IsPlain (codes "          " ++ text) = record { whole = printable_line (codes "          " ++ text) a.printable; plain = a.plain } in
    let end_inner : IsPlain (codes "        END DO") = record { whole = printable_line (codes "        END DO") refl; plain = inner_end } in
    let end_outer : IsPlain (codes "      END DO") = record { whole = printable_line (codes "      END DO") refl; plain = outer_end } in
    (outer, (inner, (body, (end_inner, (end_outer, tt)))))

front_lines : ArePlain front
front_lines =
    let arrays : IsPlain (codes "      INTEGER A(10,10), B(10,10)") = record { whole = printable_line (codes "      INTEGER A(10,10), B(10,10)") refl; plain = of_arrays } in
    let saved : IsPlain (codes "      SAVE A, B") = record { whole = printable_line (codes "      SAVE A, B") refl; plain = of_save } in
    (arrays, (saved, nest_lines (codes "1, 10") (codes "A(I,J) = I+J") refl (record { printable = refl; plain = to_a (codes "I+J") })))

later_lines : (ks : List ℕ) → ArePlain (flat_map later_nest ks)
later_lines [] = tt
later_lines (k ∷ ks) = joined IsPlain (later_nest k) (flat_map later_nest ks) (nest_lines (codes "2, 9") (assignment k) refl (assigned k)) (later_lines ks)

abbrev made : ℕ → List (List ℕ)
made n = front ++ flat_map later_nest (range_with_len 1 n) ++ codes "      END" ∷ []

made_lines : (n : ℕ) → ArePlain (made n)
made_lines n =
    let nests = flat_map later_nest (range_with_len 1 n) in
    joined IsPlain (front ++ nests) (codes "      END" ∷ []) (joined IsPlain front nests front_lines (later_lines (range_with_len 1 n))) (record { whole = printable_line (codes "      END") refl; plain = program_end }, tt)

each_line : (ls : List (List ℕ)) → ArePlain ls → AllByRecursion IsLine ls
each_line [] all = tt
each_line (l ∷ ls) all = (all.0.whole, each_line ls all.1)

each_plain : (ls : List (List ℕ)) → ArePlain ls → AllByRecursion IsBareLine ls
each_plain [] all = tt
each_plain (l ∷ ls) all = (all.0.plain, each_plain ls all.1)

program_lines : (n : ℕ) → lines (program n) ≡ made n
unfolding program
program_lines n = lines_written (made n) (each_line (made n) (made_lines n))

-- a program that is made is bare
pub is_bare : (n : ℕ) (t : ProgramTree) → Reads (program n) t → AreBare t.body
is_bare n t reads =
    bare_program (program n) t (subst (AllByRecursion IsBareLine) (sym (program_lines n)) (each_plain (made n) (made_lines n))) reads
