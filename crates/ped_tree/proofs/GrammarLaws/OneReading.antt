-- What a text's statements say is one list of entries; so there is one first refusal, or none.
use Rattle.std.proofs.Common.{◌≡◌, ℕ, List, [], ◌∷◌, Some, None, Option, refl, sym, ap, ◌∙◌}
use Rattle.ped_tree.specs.Tree.{ProgramTree}
use Rattle.ped_tree.specs.Grammar.Refusal.{Finding}
use Rattle.ped_tree.specs.Grammar.Statement.{Statement}
use Rattle.ped_tree.specs.Grammar.Grouping.{statements_of}
use Rattle.ped_tree.specs.Grammar.Items.{Reading, says, outside_profile, no_form, Entry}
use Rattle.ped_tree.specs.Grammar.Reading.{OneItem, IsReading, AreEntries, IsCutInto, first_program_refusal, Refuses, in_lines, in_statements, Reads}

-- a statement's text has one reading
pub one_reading : OneItem → (text : List ℕ) (r s : Reading) → IsReading text r → IsReading text s → r ≡ s
one_reading one text (says i) (says j) p q = ap says (one text i j p q)
one_reading one text (says i) outside_profile p q = absurd (q.0 i p)
one_reading one text (says i) no_form p q = absurd (q.0 i p)
one_reading one text outside_profile (says j) p q = absurd (p.0 j q)
one_reading one text outside_profile outside_profile p q = refl
one_reading one text outside_profile no_form p q = absurd (q.1 p.1)
one_reading one text no_form (says j) p q = absurd (p.0 j q)
one_reading one text no_form outside_profile p q = absurd (p.1 q.1)
one_reading one text no_form no_form p q = refl

-- statements have one list of entries
pub one_entries : OneItem → (ss : List Statement) (es fs : List Entry) → AreEntries ss es → AreEntries ss fs → es ≡ fs
one_entries one [] [] [] p q = refl
one_entries one [] [] (f ∷ fs) p q = absurd q
one_entries one [] (e ∷ es) fs p q = absurd p
one_entries one (s ∷ ss) [] fs p q = absurd p
one_entries one (s ∷ ss) (e ∷ es) [] p q = absurd q
one_entries one (s ∷ ss) (e ∷ es) (f ∷ fs) p q =
    let statement = p.0 ∙ sym q.0 in
    let reading = one_reading one s.text e.reading f.reading p.1 q.1 in
    let rest = one_entries one ss es fs p.2 q.2 in
    λ i. record { statement = statement i; reading = reading i } ∷ rest i

-- a text that no refusal of a line has is cut into one list of entries
pub one_cut : OneItem → (text : List ℕ) (es fs : List Entry) → IsCutInto text es → IsCutInto text fs → es ≡ fs
one_cut one text es fs p q = one_entries one (statements_of text).statements es fs p.readings q.readings

some_is : {A : Type 0} (x y : A) → Some x ≡ Some y → x ≡ y
some_is x y e = cc

none_is_some : {A : Type 0} (x : A) → ◌≡◌ {A = Option A} None (Some x) → ⊥
none_is_some x e = absurd cc

-- a text has one first refusal at most
pub refused_once : OneItem → (text : List ℕ) (a b : Finding) → Refuses text a → Refuses text b → a ≡ b
refused_once one text a b (in_lines p) (in_lines q) = some_is a b (sym p ∙ q)
refused_once one text a b (in_lines p) (in_statements es c q) = absurd (none_is_some a (sym c.accepted ∙ p))
refused_once one text a b (in_statements es c p) (in_lines q) = absurd (none_is_some b (sym c.accepted ∙ q))
refused_once one text a b (in_statements es c p) (in_statements fs d q) =
    some_is a b (sym p ∙ ap (first_program_refusal text) (one_cut one text es fs c d) ∙ q)

-- no text has a tree and a refusal
pub not_both : OneItem → (text : List ℕ) (t : ProgramTree) (a : Finding) → Reads text t → Refuses text a → ⊥
not_both one text t a r (in_lines p) = none_is_some a (sym r.cut.accepted ∙ p)
not_both one text t a r (in_statements es c p) =
    none_is_some a (sym r.accepted ∙ ap (first_program_refusal text) (one_cut one text r.entries es r.cut c) ∙ p)
