-- The programs that are made for trying out tools, in printed form, and the scripts for them (this project).
use Rattle.std.specs.Prelude.{ℕ, ◌+◌, ◌*◌, ◌%◌, List, [], ◌∷◌, ◌++◌, ◌==◌, codes, if◌then◌else◌}
use Rattle.std.specs.Fmt.{decimal}
use Rattle.std.specs.List.{flat_map, range_with_len}

-- lines as a text: each with its line feed
abbrev pub text_of : List (List ℕ) → List ℕ
text_of lines = flat_map (λ line. line ++ 10 ∷ []) lines

-- the lines of a nest: a DO over I and in it a DO over J, both from and to these, with one assignment in the inner one
abbrev pub nest : List ℕ → List ℕ → List (List ℕ)
nest bounds assignment =
    (codes "      DO I = " ++ bounds)
    ∷ (codes "        DO J = " ++ bounds)
    ∷ (codes "          " ++ assignment)
    ∷ codes "        END DO"
    ∷ codes "      END DO"
    ∷ []

-- the assignment in nest k, by the rest of k by 3: along both axes; along the falling diagonal; at the same place alone
abbrev pub assignment : ℕ → List ℕ
assignment k =
    if k % 3 == 1 then codes "A(I,J) = MOD(A(I-1,J)+A(I,J-1),1000)"
    else if k % 3 == 2 then codes "A(I,J) = MOD(A(I-1,J+1)+" ++ decimal k ++ codes ",1000)"
    else codes "B(I,J) = A(I,J)+" ++ decimal k

-- the declarations, and a nest that gives each element of A a value
abbrev pub front : List (List ℕ)
front = codes "      INTEGER A(10,10), B(10,10)" ∷ codes "      SAVE A, B" ∷ nest (codes "1, 10") (codes "A(I,J) = I+J")

-- nest k after it, over the inner elements; its statements are 3k+1, 3k+2 and 3k+3
abbrev pub later_nest : ℕ → List (List ℕ)
later_nest k = nest (codes "2, 9") (assignment k)

-- the program with n nests after the first
unfoldable pub program : ℕ → List ℕ
program n = text_of (front ++ flat_map later_nest (range_with_len 1 n) ++ codes "      END" ∷ [])

-- the commands for nest k: its loops are interchanged, and then the inner one is made parallel
abbrev pub commands : ℕ → List (List ℕ)
commands k = (codes "interchange " ++ decimal (3 * k + 1)) ∷ (codes "parallel " ++ decimal (3 * k + 2)) ∷ []

-- the script for the program with n nests after the first: the commands for each of these in order
unfoldable pub script : ℕ → List ℕ
script n = text_of (flat_map commands (range_with_len 1 n))
