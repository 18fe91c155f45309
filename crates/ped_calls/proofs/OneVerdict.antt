-- Each text has an expansion or a first refusal, one of them, and not both.
use Rattle.std.proofs.Common.{◌≡◌, ◌⊎◌, inl, inr, ℕ, List, [], ◌∷◌, Bool, true, false, Option, Some, None, refl, sym, ap, subst, ◌∙◌, eqb, eqb-true, ltb, ◌||◌, ◌&&◌, if◌then◌else◌, ◌==◌, arith}
use Rattle.ped_tree.specs.Tree.{ProgramTree}
use Rattle.ped_tree.specs.Grammar.Fits.{fits}
use Rattle.ped_tree.specs.Grammar.Refusal.{Finding, first_of}
use Rattle.ped_tree.specs.Grammar.Statement.{Statement}
use Rattle.ped_tree.specs.Grammar.Grouping.{statements_of}
use Rattle.ped_tree.specs.Grammar.LineRefusals.{first_line_refusal}
use Rattle.ped_links.specs.ped_parse.specs.ped_statements.proofs.OneReading.{reading_is}
use Rattle.ped_links.specs.ped_parse.specs.ped_blocks.proofs.BlocksFound.{first_none}
use Rattle.ped_links.specs.ped_symbols.specs.NameRefusals.{name_refusals, IsValid}
use Rattle.ped_links.specs.ped_units.specs.Units.{ProgramUnits, all_units}
use Rattle.ped_links.specs.ped_units.specs.Reading.{UnitEntry, AreUnitEntries, IsCutIntoUnits}
use Rattle.ped_links.specs.ped_units.specs.Refusals.{first_segments_refusal, ReadsUnits, units_name_refusals}
use Rattle.ped_links.specs.ped_units.specs.Linking.{LinkRefusal, NoUnit, Recursion, Arguments, Aliased, CallPlace, number_of_link, IsFirstLink, IsLinked}
use Rattle.ped_links.specs.ped_units.specs.Expanding.{expansion}
use Rattle.ped_links.specs.ped_units.specs.Verdicts.{UnitFinding, of_text, of_links, found_in_text, ReadsRightUnits, ReadsLinkedUnits, IsFirstPast, RefusesUnits, in_lines, in_statements, in_names, in_links, in_expanding, IsExpansion}
use Rattle.ped_calls.specs.Laws.{HasOneExpansion, HasOneUnitRefusal}
use Rattle.ped_links.proofs.Known.{IsKnown, holds, fails, known_true, known_both, known_as}
use Rattle.ped_links.proofs.LinksKnown.{FirstLink, linked_or_refused}
use Rattle.ped_calls.proofs.MainStarts.{starts_well}
use Rattle.ped_links.specs.ped_units.proofs.OneUnits.{one_unit_cut, one_units, units_there, unit_item_there}
use Rattle.ped_calls.proofs.PastKnown.{PastThere, past_there, same_limit}

none_some : (f : Finding) → ◌≡◌ {A = Option Finding} None (Some f) → ⊥
none_some f e = cc

some_is : (f g : Finding) → Some f ≡ Some g → f ≡ g
some_is f g e = cc

-- the same rule at the same line
same_finding : (f g : UnitFinding) → f.rule ≡ g.rule → f.line ≡ g.line → f ≡ g
same_finding f g r l = λ i. record { rule = r i; line = l i }

-- each statement is something in a file of program units
entries_of : (ss : List Statement) → (es : List UnitEntry) × AreUnitEntries ss es
entries_of [] = ([], tt)
entries_of (s ∷ ss) =
    let rest = entries_of ss in
    let r = reading_is (λ n. n) s.text in
    let i = unit_item_there s.text r.0 r.1 in
    ((record { statement = s; item = i.0 }) ∷ rest.0, (refl, i.1, rest.1))

-- the rule of a number
abbrev link_of : ℕ → LinkRefusal
link_of n = if n == 20 then NoUnit else if n == 21 then Recursion else if n == 22 then Arguments else if n == 23 then Aliased else CallPlace

link_back : (r : LinkRefusal) → link_of (number_of_link r) ≡ r
link_back NoUnit = refl
link_back Recursion = refl
link_back Arguments = refl
link_back Aliased = refl
link_back CallPlace = refl

-- by line, and then by number
abbrev before : ℕ → ℕ → ℕ → ℕ → Bool
before a p b q = ltb a b || (eqb a b && ltb p q)

same_line : (a p b q : ℕ) → before a p b q ≡ false → before b q a p ≡ false → a ≡ b
same_line a p b q h k = grind (arith, eqb-true)

same_number : (a p b q : ℕ) → before a p b q ≡ false → before b q a p ≡ false → p ≡ q
same_number a p b q h k = grind (arith, eqb-true)

one_link : (us : ProgramUnits) (r q : LinkRefusal) (line other : ℕ) → IsFirstLink us r line → IsFirstLink us q other → (r ≡ q) × (line ≡ other)
one_link us r q line other f g =
    let forth = g.least r line f.stands in
    let back = f.least q other g.stands in (
      sym (link_back r) ∙ ap link_of (same_number line (number_of_link r) other (number_of_link q) forth back) ∙ link_back q,
      same_line line (number_of_link r) other (number_of_link q) forth back,
    )

module _ (text : List ℕ) where
  -- what is read isn't refused before

  lines_right : (us : ProgramUnits) (f : Finding) → ReadsUnits text us → first_line_refusal text ≡ Some f → ⊥
  lines_right us f r h = none_some f (sym r.cut.accepted ∙ h)

  statements_right : (us : ProgramUnits) (f : Finding) (es : List UnitEntry) → ReadsUnits text us → IsCutIntoUnits text es → first_segments_refusal text es ≡ Some f → ⊥
  statements_right us f es r cut h = none_some f (sym r.accepted ∙ ap (first_segments_refusal text) (one_unit_cut text r.entries es r.cut cut) ∙ h)

  names_right : (us vs : ProgramUnits) (f : Finding) → ReadsRightUnits text us → ReadsUnits text vs → first_of (units_name_refusals (all_units vs)) ≡ Some f → ⊥
  names_right us vs f right r h =
      let same = one_units text us vs right.reads r in
      none_some f (sym (ap first_of (sym (ap (λ (x : ProgramUnits). units_name_refusals (all_units x)) same) ∙ right.names)) ∙ h)

  links_right : (us vs : ProgramUnits) (q : LinkRefusal) (line : ℕ) → ReadsLinkedUnits text us → ReadsUnits text vs → IsFirstLink vs q line → ⊥
  links_right us vs q line linked r first =
      let same = one_units text us vs linked.right.reads r in
      (subst IsLinked same linked.linked) q line first.stands

  -- refused at a line
  at_line : (f : Finding) → first_line_refusal text ≡ Some f → HasOneUnitRefusal text
  at_line f h = record { first = found_in_text f; refuses = in_lines f refl h; only = only; treeless = λ t x. lines_right x.units f x.linked.right.reads h }
    where
      only : (g : UnitFinding) → RefusesUnits text g → g ≡ found_in_text f
      only g (in_lines k is e) = is ∙ ap found_in_text (some_is k f (sym e ∙ h))
      only g (in_statements k is es cut e) = absurd (none_some f (sym cut.accepted ∙ h))
      only g (in_names k is us r e) = absurd (lines_right us f r h)
      only g (in_links q is us right e) = absurd (lines_right us f right.reads h)
      only g (in_expanding q is us linked e) = absurd (lines_right us f linked.right.reads h)

  -- refused at a statement
  at_statement : (f : Finding) (es : List UnitEntry) → IsCutIntoUnits text es → first_segments_refusal text es ≡ Some f → HasOneUnitRefusal text
  at_statement f es cut h = record { first = found_in_text f; refuses = in_statements f refl es cut h; only = only; treeless = λ t x. statements_right x.units f es x.linked.right.reads cut h }
    where
      only : (g : UnitFinding) → RefusesUnits text g → g ≡ found_in_text f
      only g (in_lines k is e) = absurd (none_some k (sym cut.accepted ∙ e))
      only g (in_statements k is fs also e) = is ∙ ap found_in_text (some_is k f (sym e ∙ ap (first_segments_refusal text) (one_unit_cut text fs es also cut) ∙ h))
      only g (in_names k is us r e) = absurd (statements_right us f es r cut h)
      only g (in_links q is us right e) = absurd (statements_right us f es right.reads cut h)
      only g (in_expanding q is us linked e) = absurd (statements_right us f es linked.right.reads cut h)

  -- refused for a name
  for_name : (f : Finding) (us : ProgramUnits) → ReadsUnits text us → first_of (units_name_refusals (all_units us)) ≡ Some f → HasOneUnitRefusal text
  for_name f us r h = record { first = found_in_text f; refuses = in_names f refl us r h; only = only; treeless = λ t x. names_right x.units us f x.linked.right r h }
    where
      only : (g : UnitFinding) → RefusesUnits text g → g ≡ found_in_text f
      only g (in_lines k is e) = absurd (lines_right us k r e)
      only g (in_statements k is es cut e) = absurd (statements_right us k es r cut e)
      only g (in_names k is vs s e) = is ∙ ap found_in_text (some_is k f (sym e ∙ ap (λ (x : ProgramUnits). first_of (units_name_refusals (all_units x))) (one_units text vs us s r) ∙ h))
      only g (in_links q is vs right e) = absurd (names_right vs us f right r h)
      only g (in_expanding q is vs linked e) = absurd (names_right vs us f linked.right r h)

  -- refused for a CALL
  for_call : (us : ProgramUnits) → ReadsRightUnits text us → FirstLink us → HasOneUnitRefusal text
  for_call us right f = record {
    first = record { rule = of_links f.rule; line = f.line };
    refuses = in_links f.rule refl us right f.first;
    only = only;
    treeless = λ t x. links_right x.units us f.rule f.line x.linked right.reads f.first;
  }
    where
      only : (g : UnitFinding) → RefusesUnits text g → g ≡ record { rule = of_links f.rule; line = f.line }
      only g (in_lines k is e) = absurd (lines_right us k right.reads e)
      only g (in_statements k is es cut e) = absurd (statements_right us k es right.reads cut e)
      only g (in_names k is vs r e) = absurd (names_right us vs k right r e)
      only g (in_links q is vs also e) =
          let here = subst (λ (x : ProgramUnits). IsFirstLink x q g.line) (one_units text vs us also.reads right.reads) e in
          let same = one_link us q f.rule g.line f.line here f.first in
          same_finding g (record { rule = of_links f.rule; line = f.line }) (is ∙ ap of_links same.0) same.1
      only g (in_expanding q is vs linked e) = absurd (links_right vs us f.rule f.line linked right.reads f.first)

  -- refused for a limit
  for_limit : (us : ProgramUnits) → ReadsLinkedUnits text us → PastThere us → HasOneUnitRefusal text
  for_limit us linked p = record {
    first = record { rule = of_text p.limit; line = p.line };
    refuses = in_expanding p.limit refl us linked p.first;
    only = only;
    treeless = treeless;
  }
    where
      only : (g : UnitFinding) → RefusesUnits text g → g ≡ record { rule = of_text p.limit; line = p.line }
      only g (in_lines k is e) = absurd (lines_right us k linked.right.reads e)
      only g (in_statements k is es cut e) = absurd (statements_right us k es linked.right.reads cut e)
      only g (in_names k is vs r e) = absurd (names_right us vs k linked.right r e)
      only g (in_links q is vs right e) = absurd (links_right us vs q g.line linked right.reads e)
      only g (in_expanding q is vs also e) =
          let here = subst (λ (x : ProgramUnits). IsFirstPast x q g.line) (one_units text vs us also.right.reads linked.right.reads) e in
          let same = same_limit us q p.limit g.line p.line here p.first in
          same_finding g (record { rule = of_text p.limit; line = p.line }) (is ∙ ap of_text same.0) same.1

      treeless : (t : ProgramTree) → IsExpansion text t → ⊥
      treeless t x =
          let same = one_units text x.units us x.linked.right.reads linked.right.reads in
          p.first.invalid (subst IsValid (sym x.expands ∙ ap expansion same) x.valid)

  -- expanded
  with_tree : (us : ProgramUnits) → ReadsLinkedUnits text us → IsValid (expansion us) → HasOneExpansion text
  with_tree us linked valid = record {
    tree = expansion us;
    expands = record { units = us; linked = linked; expands = refl; valid = valid };
    only = λ t x. sym x.expands ∙ ap expansion (one_units text x.units us x.linked.right.reads linked.right.reads);
    accepted = accepted;
  }
    where
      accepted : (g : UnitFinding) → RefusesUnits text g → ⊥
      accepted g (in_lines k is e) = lines_right us k linked.right.reads e
      accepted g (in_statements k is es cut e) = statements_right us k es linked.right.reads cut e
      accepted g (in_names k is vs r e) = names_right us vs k linked.right r e
      accepted g (in_links q is vs right e) = links_right us vs q g.line linked right.reads e
      accepted g (in_expanding q is vs also e) = e.invalid (subst (λ (x : ProgramUnits). IsValid (expansion x)) (one_units text us vs linked.right.reads also.right.reads) valid)

  valid_known : (t : ProgramTree) → IsKnown (IsValid t)
  valid_known t = known_as (λ h. record { fits = h.0; names = h.1 }) (λ v. (v.fits, v.names)) (known_both (known_true (fits t)) (empty (name_refusals [] t)))
    where
      empty : (fs : List Finding) → IsKnown (fs ≡ [])
      empty [] = holds refl
      empty (f ∷ fs) = fails no
        where
          no : ◌≡◌ {A = List Finding} (f ∷ fs) [] → ⊥
          no e = cc

  by_expansion : (us : ProgramUnits) → ReadsLinkedUnits text us → IsKnown (IsValid (expansion us)) → HasOneExpansion text ⊎ HasOneUnitRefusal text
  by_expansion us linked (holds valid) = inl (with_tree us linked valid)
  by_expansion us linked (fails invalid) = inr (for_limit us linked (past_there us (starts_well text us linked.right) invalid))

  by_links : (us : ProgramUnits) → ReadsRightUnits text us → IsLinked us ⊎ FirstLink us → HasOneExpansion text ⊎ HasOneUnitRefusal text
  by_links us right (inl linked) = by_expansion us (record { right = right; linked = linked }) (valid_known (expansion us))
  by_links us right (inr f) = inr (for_call us right f)

  by_names : (us : ProgramUnits) → ReadsUnits text us → (found : Option Finding) → first_of (units_name_refusals (all_units us)) ≡ found → HasOneExpansion text ⊎ HasOneUnitRefusal text
  by_names us r None h = by_links us (record { reads = r; names = first_none (units_name_refusals (all_units us)) h }) (linked_or_refused us)
  by_names us r (Some f) h = inr (for_name f us r h)

  by_statements : (es : List UnitEntry) → IsCutIntoUnits text es → (found : Option Finding) → first_segments_refusal text es ≡ found → HasOneExpansion text ⊎ HasOneUnitRefusal text
  by_statements es cut None h =
      let us = units_there text es cut h in
      by_names us.0 us.1 (first_of (units_name_refusals (all_units us.0))) refl
  by_statements es cut (Some f) h = inr (at_statement f es cut h)

  by_lines : (found : Option Finding) → first_line_refusal text ≡ found → HasOneExpansion text ⊎ HasOneUnitRefusal text
  by_lines None h =
      let es = entries_of (statements_of text).statements in
      by_statements es.0 (record { accepted = h; items = es.1 }) (first_segments_refusal text es.0) refl
  by_lines (Some f) h = inr (at_line f h)

  -- each text has one expansion or one first refusal
  pub one_of_both : HasOneExpansion text ⊎ HasOneUnitRefusal text
  one_of_both = by_lines (first_line_refusal text) refl
