-- A dependence that a lowered DO carries gives one that the DO carries in the program, on none of the scalars.
use Rattle.std.proofs.Common.{◌≡◌, ◌⊎◌, ℕ, ◌+◌, ◌≤◌, ◌<◌, ◌==◌, List, [], ◌∷◌, ◌++◌, map, length, take, Bool, true, false, ◌&&◌, ◌||◌, Option, Some, None, nat_le, if◌then◌else◌, refl, sym, ap, subst, ◌∙◌, inl, inr, arith, eqb-true, append_assoc}
use Rattle.std.specs.Prelude.{nat_lt, option_map}
use Rattle.std.specs.Option.{option_or}
use Rattle.std.specs.List.{list_all}
use Rattle.std.proofs.lemmas.Bool.{and_parts, both_ways, ltb-true, leb-true, lt-ltb, le-leb}
use Rattle.ped_base.specs.Lists.{has_some, is_same_text, is_among}
use Rattle.ped_base.proofs.NameEquality.{same_itself, same_is}
use Rattle.ped_tree.specs.NamesIn.{all_loop_variables}
use Rattle.ped_tree.specs.Tree.{Head, Var, ProgramTree}
use Rattle.ped_tree.specs.Accesses.{Access, constant_names}
use Rattle.ped_tree.specs.Constants.ConstantExpressions.{constant_value}
use Rattle.ped_tree.specs.Nests.{Loop, common_nest}
use Rattle.ped_tree.specs.Numbering.{statements_count}
use Rattle.ped_refs.specs.References.{Reference, references, outermost, innermost_private, private_loop, is_pair, pairs}
use Rattle.ped_rules.specs.ped_affine.specs.PairViews.{heads_of, view_at}
use Rattle.ped_rules.specs.ped_views.specs.declared.directions.Direction.{Direction}
use Rattle.ped_rules.specs.ped_views.specs.Views.{View}
use Rattle.ped_rules.specs.ped_views.specs.Vectors.{IsPossible}
use Rattle.ped_edges.specs.Edges.{Edge}
use Rattle.ped_rules.specs.ped_graph.specs.Owners.{is_same_owner, have_same_owner, level_by, private_level, owner_level, is_same}
use Rattle.ped_rules.specs.ped_graph.specs.DependencePane.{is_level, is_in_body, extent_of}
use Rattle.ped_rules.specs.ped_graph.specs.Dependences.{place_of, carriage_from, is_of, setting_in, site_of, view_of, AreEdges}
use Rattle.ped_rules.specs.ped_symbols.specs.NameRefusals.{IsValid}
use Rattle.ped_rules.specs.ped_symbols.specs.Kinds.{table_of}
use Rattle.ped_rules.specs.ped_symbols.proofs.RightUseLaws.Whole.{others_unvalued}
use Rattle.ped_rules.specs.ped_flow.proofs.Truths.{untrue}
use Rattle.ped_rules.specs.ped_flow.specs.PlainBounds.{nest_round}
use Rattle.ped_rules.specs.ped_flow.specs.Questions.{LoopOf}
use Rattle.ped_rules.specs.ped_laws.specs.Acts.Orders.{IsIn}
use Rattle.ped_rules.specs.ped_laws.proofs.ActLaws.Lists.{in_parts}
use Rattle.ped_rules.specs.ped_laws.proofs.ConflictLaws.CoveringEdges.{is_listed}
use Rattle.ped_rules.specs.ped_loop_runs.proofs.LoopLaws.OneForOneNames.{variables_unnamed}
use Rattle.ped_rules.specs.Carried.{level_at, is_carried_by}
use Rattle.ped_rules.proofs.CarriedEdges.{in_body}
use Rattle.ped_rules.proofs.NestLaws.IndicesApart.{variable_apart}
use Rattle.ped_reduce.specs.Lowering.{Partials}
use Rattle.ped_reduce.proofs.Resembling.{scalars_of}
use Rattle.ped_reduce.proofs.ResemblingViews.{same_length}
use Rattle.ped_reduce.proofs.ResemblingArrays.{carried_apart}
use Rattle.ped_reduce.proofs.ReferencesInGaps.{loop, from_number, to_number}
use Rattle.ped_reduce.proofs.SummedReferences.{renumbered, IsOfArrays}
use Rattle.ped_reduce.proofs.SummedNumbers.{moved_rises, moved_from, same_number, common_renumbered}
use Rattle.ped_reduce.proofs.UnnamedReferences.{all_unnamed}
use Rattle.ped_reduce.proofs.LevelEdges.{IsCarriedPair, IsOfPair, HasEdge, pair_of, edge_of, both_of}
use Rattle.ped_reduce.proofs.LoweredStages.{IsResembling}
use Rattle.ped_reduce.proofs.ResemblingPaths.{new_loop}
use Rattle.ped_reduce.proofs.ResemblingReferences as refs
use Rattle.ped_reduce.proofs.ResemblingReferences.{From, Old, references_resemble, gap_heads, same_bases, loops_before, old_round, new_round, of_program}

-- the innermost of DO loops that names a variable in PRIVATE
module _ (x : List ℕ) where
  or_nothing : (o : Option Loop) → option_or o None ≡ o
  or_nothing None = refl
  or_nothing (Some l) = refl

  or_three : (a b c : Option Loop) → option_or (option_or a b) c ≡ option_or a (option_or b c)
  or_three None b c = refl
  or_three (Some l) b c = refl

  private_append : (xs ys : List Loop) → innermost_private x (xs ++ ys) ≡ option_or (innermost_private x ys) (innermost_private x xs)
  private_append [] ys = sym (or_nothing (innermost_private x ys))
  private_append (l ∷ xs) ys =
      ap (λ (o : Option Loop). option_or o (if is_among x l.head.private then Some l else None)) (private_append xs ys)
      ∙ or_three (innermost_private x ys) (innermost_private x xs) (if is_among x l.head.private then Some l else None)

  private_renumbered : (f : ℕ → ℕ) (ls : List Loop) → innermost_private x (map (renumbered f) ls) ≡ option_map (renumbered f) (innermost_private x ls)
  private_renumbered f [] = refl
  private_renumbered f (l ∷ ls) =
      ap (λ (o : Option Loop). option_or o (if is_among x l.head.private then Some (renumbered f l) else None)) (private_renumbered f ls) ∙ by (innermost_private x ls) (is_among x l.head.private)
    where
      by : (o : Option Loop) (b : Bool) → option_or (option_map (renumbered f) o) (if b then Some (renumbered f l) else None) ≡ option_map (renumbered f) (option_or o (if b then Some l else None))
      by None true = refl
      by None false = refl
      by (Some m) b = refl

  private_in : (ls : List Loop) (m : Loop) → innermost_private x ls ≡ Some m → IsIn m ls
  private_in [] m e = absurd cc
  private_in (l ∷ ls) m e = by (innermost_private x ls) (is_among x l.head.private) (private_in ls m) e
    where
      by : (o : Option Loop) (b : Bool) → (o ≡ Some m → IsIn m ls) → option_or o (if b then Some l else None) ≡ Some m → IsIn m (l ∷ ls)
      by (Some k) b more g = inr (more g)
      by None true more g = inl (sym (one l m g))
        where
          one : (a c : Loop) → Some a ≡ Some c → a ≡ c
          one a c q = cc
      by None false more g = absurd cc

  -- heads tell whether there is one, and at which level
  level_same : (xs ys : List Loop) → heads_of xs ≡ heads_of ys → private_level x xs ≡ private_level x ys
  level_same xs ys e = by_heads xs ∙ ap level e ∙ sym (by_heads ys)
    where
      level : List Head → ℕ
      level [] = 0
      level (h ∷ hs) = level_by (level hs) (is_among x h.private)

      by_heads : (ls : List Loop) → private_level x ls ≡ level (heads_of ls)
      by_heads [] = refl
      by_heads (l ∷ ls) = ap (λ (n : ℕ). level_by n (is_among x l.head.private)) (by_heads ls)

common_front : (ls a b : List Loop) → length (common_nest (ls ++ a) (ls ++ b)) ≡ length ls + length (common_nest a b)
common_front [] a b = omega arith
common_front (l ∷ ls) a b =
    let more = common_front ls a b in
    ap (λ (c : Bool). length (if c then l ∷ common_nest (ls ++ a) (ls ++ b) else [])) (itself l.number) ∙ omega (arith, more)
  where
    itself : (n : ℕ) → (n == n) ≡ true
    itself n = grind (arith, eqb-true)

itself : (n : ℕ) → (n == n) ≡ true
itself n = grind (arith, eqb-true)

level_is : (n : ℕ) (o : Option ℕ) → is_level n o ≡ true → o ≡ Some n
level_is n None h = untrue h
level_is n (Some k) h = ap Some (eqb-true k n h)

module _ (t u : ProgramTree) (s k : ℕ) (loop_is : LoopOf t s) (m : IsResembling t s loop_is u k) (valid : IsValid t) (new_valid : IsValid u) where
  abbrev F : Reference → Type 0
  F r = From t u s k loop_is m valid r

  abbrev f : ℕ → ℕ
  f = refs.number_of t u s k loop_is m valid

  abbrev base : List Loop
  base = refs.base t u s k loop_is m valid

  abbrev new_base : List Loop
  new_base = refs.new_base t u s k loop_is m valid

  abbrev ps : List Partials
  ps = m.partials

  abbrev v : List ℕ
  v = loop_is.head.variable

  rises : (i j : ℕ) → i < j → f i < f j
  rises i j h = moved_rises v ps (refs.inside_body t u s k loop_is m valid) (s + 1) (refs.start t u s k loop_is m valid) i j h

  same_base_length : length new_base ≡ length base
  same_base_length = same_length new_base base (same_bases t u s k loop_is m valid)

  -- as many common loops
  pub same_common : (a b : Reference) (x : F a) (y : F b) → length (common_nest a.nest b.nest) ≡ length (common_nest x.source.nest y.source.nest)
  same_common a b x y =
      (λ i. length (common_nest (x.new_nest i) (y.new_nest i)))
      ∙ common_front new_base (map (renumbered f) x.inner) (map (renumbered f) y.inner)
      ∙ (λ i. same_base_length i + common_renumbered f rises x.inner y.inner i)
      ∙ sym (common_front base x.inner y.inner) ∙ (λ i. length (common_nest (sym x.old_nest i) (sym y.old_nest i)))

  pub same_heads_of : (a : Reference) (x : F a) → heads_of a.nest ≡ heads_of x.source.nest
  same_heads_of a x =
      ap heads_of x.new_nest ∙ heads_append new_base (map (renumbered f) x.inner) ∙ (λ i. same_bases t u s k loop_is m valid i ++ heads_renumbered x.inner i) ∙ sym (heads_append base x.inner) ∙ sym (ap heads_of x.old_nest)
    where
      heads_append : (xs ys : List Loop) → heads_of (xs ++ ys) ≡ heads_of xs ++ heads_of ys
      heads_append [] ys = refl
      heads_append (z ∷ xs) ys = ap (λ (hs : List Head). z.head ∷ hs) (heads_append xs ys)

      heads_renumbered : (ls : List Loop) → heads_of (map (renumbered f) ls) ≡ heads_of ls
      heads_renumbered [] = refl
      heads_renumbered (l ∷ ls) = ap (λ (hs : List Head). l.head ∷ hs) (heads_renumbered ls)

  -- the owner's level
  pub same_owner_level : (a : Reference) (x : F a) → owner_level a ≡ owner_level x.source
  same_owner_level a x = (λ i. private_level (x.access i).name a.nest) ∙ level_same x.source.access.name a.nest x.source.nest (same_heads_of a x)

  -- the numbers of the DO loops further out
  new_number : (l : Loop) → IsIn l new_base → l.number ≤ k
  new_number l i = elim (in_parts l (nest_round u k) (loop k (refs.new_head t u s k loop_is m valid) ∷ []) i) [
    | inl j ↦ (let less = loops_before m.other 1 l (subst (IsIn l) (new_round t u s k loop_is m valid) j) in let at = m.number in omega (arith, less, at))
    | inr j ↦ elim j [ inl e ↦ (let same = ap (λ (z : Loop). z.number) e in omega (arith, same)) | inr w ↦ absurd w ]
  ]

  deep_number : (inner : List Loop) → ((l : Loop) → IsIn l inner → s < l.number) → (l : Loop) → IsIn l inner → k < f l.number
  deep_number inner deep l i =
      let from = deep l i in
      let starts = refs.starts t u s k loop_is m valid in
      let more = moved_from v ps (refs.inside_body t u s k loop_is m valid) (s + 1) (refs.start t u s k loop_is m valid) l.number starts (omega (arith, from)) in
      omega (arith, more)

  -- the same owner
  owners : (n o : Option Loop) (inner_a inner_b : Option Loop) → ((l : Loop) → n ≡ Some l → l.number ≤ k) → ((l : Loop) → inner_a ≡ Some l → k < f l.number) → ((l : Loop) → inner_b ≡ Some l → k < f l.number)
      → is_same_owner (option_or (option_map (renumbered f) inner_a) n) (option_or (option_map (renumbered f) inner_b) n) ≡ true → is_same_owner (option_or inner_a o) (option_or inner_b o) ≡ true
  owners n None None None low deep_a deep_b h = refl
  owners n (Some l) None None low deep_a deep_b h = itself l.number
  owners n o (Some a) (Some b) low deep_a deep_b h = sym (same_number f rises a.number b.number) ∙ h
  owners (Some l) o (Some a) None low deep_a deep_b h = let e = eqb-true (f a.number) l.number h in let x = low l refl in let y = deep_a a refl in absurd (omega (arith, e, x, y))
  owners None o (Some a) None low deep_a deep_b h = untrue h
  owners (Some l) o None (Some b) low deep_a deep_b h = let e = eqb-true l.number (f b.number) h in let x = low l refl in let y = deep_b b refl in absurd (omega (arith, e, x, y))
  owners None o None (Some b) low deep_a deep_b h = untrue h

  private_of : (a : Reference) (x : F a) → private_loop a ≡ option_or (option_map (renumbered f) (innermost_private a.access.name x.inner)) (innermost_private a.access.name new_base)
  private_of a x =
      ap (innermost_private a.access.name) x.new_nest ∙ private_append a.access.name new_base (map (renumbered f) x.inner)
      ∙ ap (λ (o : Option Loop). option_or o (innermost_private a.access.name new_base)) (private_renumbered a.access.name f x.inner)

  old_private_of : (a : Reference) (x : F a) → private_loop x.source ≡ option_or (innermost_private a.access.name x.inner) (innermost_private a.access.name base)
  old_private_of a x = (λ i. innermost_private (sym x.access i).name x.source.nest) ∙ ap (innermost_private a.access.name) x.old_nest ∙ private_append a.access.name base x.inner

  pub same_owner : (a b : Reference) (x : F a) (y : F b) → b.access.name ≡ a.access.name → have_same_owner a b ≡ true → have_same_owner x.source y.source ≡ true
  same_owner a b x y name h =
      let n = a.access.name in
      (λ i. is_same_owner (old_private_of a x i) ((old_private_of b y ∙ (λ j. option_or (innermost_private (name j) y.inner) (innermost_private (name j) base))) i))
      ∙ owners (innermost_private n new_base) (innermost_private n base) (innermost_private n x.inner) (innermost_private n y.inner)
      (λ l e. new_number l (private_in n new_base l e)) (λ l e. deep_number x.inner x.deep l (private_in n x.inner l e)) (λ l e. deep_number y.inner y.deep l (private_in n y.inner l e))
      (sym (λ i. is_same_owner (private_of a x i) ((private_of b y ∙ (λ j. option_or (option_map (renumbered f) (innermost_private (name j) y.inner)) (innermost_private (name j) new_base))) i)) ∙ h)

  -- two references to arrays aren't carried
  unvalued : constant_value (table_of u).constants (Var v) ≡ None
  unvalued = others_unvalued u v (variables_unnamed u new_valid k (new_loop t u s k loop_is m) v (ap (λ (b : Bool). b || is_among v (all_loop_variables (new_loop t u s k loop_is m).body)) (same_itself v)))

  pub arrays_apart : (a b : Reference) (x : IsOfArrays new_base v ps a) (y : IsOfArrays new_base v ps b) (vector : List Direction) → is_of (Some (level_at u k)) (carriage_from 1 vector) ≡ true → IsPossible (view_of u a b) vector → ⊥
  arrays_apart a b x y vector carries possible =
      let l = loop k (refs.new_head t u s k loop_is m valid) in
      let outer = nest_round u k in
      let site : (r : Reference) (z : IsOfArrays new_base v ps r) → site_of r ≡ record { nest = outer ++ l ∷ z.inner; subscripts = Var v ∷ [] } =
      λ r z i. record { nest = (z.nest ∙ append_assoc outer (l ∷ []) z.inner) i; subscripts = z.subscripts i } in
      carried_apart (setting_in u (outermost a)) outer l unvalued (variable_apart u new_valid k (new_loop t u s k loop_is m)) x.inner y.inner x.apart y.apart vector carries
      (subst (λ (w : View). IsPossible w vector) (λ i. view_at (setting_in u (outermost a)) (site a x i) (site b y i)) possible)

  -- what is asked of pairs of references: the views are the same
  abbrev pub ViewsResemble : Type 0
  ViewsResemble = (a b : Reference) (x : F a) (y : F b) → IsIn a (references u) → IsIn b (references u) → view_of u a b ≡ view_of t x.source y.source

  abbrev NamesApart : Type 0
  NamesApart = (a b : Reference) → IsOfArrays new_base v ps a → F b → a.access.name ≡ b.access.name → ⊥

  round_heads : heads_of (nest_round u k) ≡ heads_of (nest_round t s)
  round_heads = ap heads_of (new_round t u s k loop_is m valid) ∙ gap_heads t m.live m.gap 1 1 m.other m.alike ∙ sym (ap heads_of (old_round t u s k loop_is m valid))

  pub same_level : level_at u k ≡ level_at t s
  same_level = ap (λ (n : ℕ). n + 1) (same_length (nest_round u k) (nest_round t s) round_heads)

  in_old_body : (r : Reference) (x : F r) → is_in_body s (extent_of t s) x.source.statement ≡ true
  in_old_body r x =
      let from = from_number (constant_names t.decls) base (s + 1) loop_is.body x.source x.listed in
      let to = to_number (constant_names t.decls) base (s + 1) loop_is.body x.source x.listed in
      in_body t s loop_is.head loop_is.body x.source.statement loop_is.is
      ∙ (λ i. lt-ltb s x.source.statement (omega (arith, from)) i && le-leb x.source.statement (s + statements_count loop_is.body) (omega (arith, to)) i)

  has_by_length : (xs ys : List Loop) → length xs ≡ length ys → has_some xs ≡ true → has_some ys ≡ true
  has_by_length [] ys e h = untrue h
  has_by_length (x ∷ xs) [] e h = absurd (omega (arith, e))
  has_by_length (x ∷ xs) (y ∷ ys) e h = refl

  old_pair : (a b : Reference) (x : F a) (y : F b) → is_pair a b ≡ true → is_pair x.source y.source ≡ true
  old_pair a b x y h =
      let parts = and_parts (is_same_text a.access.name b.access.name && (a.access.writes || b.access.writes)) (has_some (common_nest a.nest b.nest)) h in
      let same : (is_same_text x.source.access.name y.source.access.name && (x.source.access.writes || y.source.access.writes)) ≡ true =
      sym (λ i. is_same_text (x.access i).name (y.access i).name && ((x.access i).writes || (y.access i).writes)) ∙ parts.0 in
      λ i. same i && has_by_length (common_nest a.nest b.nest) (common_nest x.source.nest y.source.nest) (same_common a b x y) parts.1 i

  of_program_old : (r : Reference) (x : F r) → IsIn x.source (references t)
  of_program_old r x = of_program t u s k loop_is m valid x.source x.listed

  -- the arrays have names that no reference of the program has
  names_apart : NamesApart
  names_apart a b z y e =
      let new = m.summable.fresh a.access.name z.array in
      let unnamed = all_unnamed a.access.name (constant_names t.decls) new.input new.output [] 1 t.body new.body y.source (of_program_old b y) in
      both_ways (is_same_text a.access.name y.source.access.name) unnamed ((λ i. is_same_text a.access.name ((sym (ap (λ (w : Access). w.name) y.access) ∙ sym e) i)) ∙ same_itself a.access.name)

  module _ (views : ViewsResemble) (edges : List Edge) (are : AreEdges u edges) (e : Edge) (i : IsIn e edges) (carries : is_carried_by u k e ≡ true) where
    in_parts_of : (is_level (level_at u k) e.level ≡ true) × ((is_in_body k (extent_of u k) e.source.0 && is_in_body k (extent_of u k) e.sink.0) ≡ true)
    in_parts_of = and_parts (is_level (level_at u k) e.level) (is_in_body k (extent_of u k) e.source.0 && is_in_body k (extent_of u k) e.sink.0) carries

    pair : IsOfPair u (pairs (references u)) (level_at u k) e
    pair = pair_of u (pairs (references u)) edges (level_at u k) are e i (level_is (level_at u k) e.level in_parts_of.0)

    both : IsIn pair.source (references u) × IsIn pair.sink (references u) × (is_pair pair.source pair.sink ≡ true)
    both = both_of (references u) pair.source pair.sink pair.listed

    -- where the statement of a reference stands in the body
    comes : (r : Reference) → IsIn r (references u) → (n : ℕ) → n ≡ r.statement → is_in_body k (extent_of u k) n ≡ true → IsOfArrays new_base v ps r ⊎ F r
    comes r j n e2 inside =
        let l = new_loop t u s k loop_is m in
        let two = and_parts (nat_lt k r.statement) (nat_le r.statement (k + statements_count l.body)) (sym (in_body u k l.head l.body r.statement l.is) ∙ subst (λ (z : ℕ). is_in_body k (extent_of u k) z ≡ true) e2 inside) in
        references_resemble t u s k loop_is m valid r j (ltb-true k r.statement two.0) (leb-true r.statement (k + statements_count l.body) two.1)

    ends : (is_in_body k (extent_of u k) e.source.0 ≡ true) × (is_in_body k (extent_of u k) e.sink.0 ≡ true)
    ends = and_parts (is_in_body k (extent_of u k) e.source.0) (is_in_body k (extent_of u k) e.sink.0) in_parts_of.1

    same_name : pair.source.access.name ≡ pair.sink.access.name
    same_name =
        let one = and_parts (is_same_text pair.source.access.name pair.sink.access.name && (pair.source.access.writes || pair.sink.access.writes)) (has_some (common_nest pair.source.nest pair.sink.nest)) both.2 in
        same_is pair.source.access.name pair.sink.access.name (and_parts (is_same_text pair.source.access.name pair.sink.access.name) (pair.source.access.writes || pair.sink.access.writes) one.0).0

    -- such a dependence of the program
    pub record HasOld (olds : List Edge) : Type 0 where
      pub edge : Edge
      pub listed : IsIn edge olds
      pub carried : is_carried_by t s edge ≡ true
      pub unsummed : is_among edge.name (scalars_of ps) ≡ false

    carried_by : (edge : Edge) (a b : Reference) (x : F a) (y : F b) → edge.source ≡ place_of x.source → edge.sink ≡ place_of y.source → edge.level ≡ Some (level_at t s) → is_carried_by t s edge ≡ true
    carried_by edge a b x y begins ends level =
        (λ j. is_level (level_at t s) (level j) && (is_in_body s (extent_of t s) (begins j).0 && is_in_body s (extent_of t s) (ends j).0))
        ∙ (λ j. itself (level_at t s) j && (in_old_body a x j && in_old_body b y j))

    -- the pair from which it comes is carried
    carried_old : (x : F pair.source) (y : F pair.sink) → IsCarriedPair t x.source y.source (level_at t s) pair.vector
    carried_old x y =
        let c = pair.carried in
        let view = views pair.source pair.sink x y both.0 both.1 in
        let loops : length (view_of u pair.source pair.sink).loops ≡ length (view_of t x.source y.source).loops = ap (λ (w : View). length w.loops) view in
        let low = c.from in
        let high = c.to in
        let level = same_level in
        record {
          owner = same_owner pair.source pair.sink x y (sym same_name) c.owner;
          possible = subst (λ (w : View). IsPossible w pair.vector) view c.possible;
          long = c.long ∙ loops;
          within = ap (λ (n : ℕ). list_all is_same (take n pair.vector)) (sym (same_owner_level pair.source x)) ∙ c.within;
          carries = ap (λ (n : ℕ). is_of (Some n) (carriage_from 1 pair.vector)) (sym level) ∙ c.carries;
          from = omega (arith, low, level);
          to = omega (arith, high, level, loops);
        }

    by_edge : (x : F pair.source) (y : F pair.sink) (olds : List Edge) → HasEdge x.source y.source (level_at t s) olds → HasOld olds
    by_edge x y olds g = record {
      edge = g.edge;
      listed = g.listed;
      carried = carried_by g.edge pair.source pair.sink x y g.begins g.ends g.of_level;
      unsummed = ap (λ (n : List ℕ). is_among n (scalars_of ps)) g.name ∙ x.unsummed;
    }

    old_edge : (x : F pair.source) (y : F pair.sink) (olds : List Edge) → AreEdges t olds → HasOld olds
    old_edge x y olds are_old =
        let there = is_listed (references t) x.source y.source (of_program_old pair.source x) (of_program_old pair.sink y) (old_pair pair.source pair.sink x y both.2) in
        by_edge x y olds (edge_of t x.source y.source (level_at t s) pair.vector (pairs (references t)) olds are_old there (carried_old x y))

    pub edges_resemble : (olds : List Edge) → AreEdges t olds → HasOld olds
    edges_resemble olds are_old =
        elim (comes pair.source both.0 e.source.0 (ap (λ (p : ℕ × ℕ). p.0) pair.begins) ends.0) [
          | inl x ↦ elim (comes pair.sink both.1 e.sink.0 (ap (λ (p : ℕ × ℕ). p.0) pair.ends) ends.1) [
            | inl y ↦ absurd (arrays_apart pair.source pair.sink x y pair.vector pair.carried.carries pair.carried.possible)
            | inr y ↦ absurd (names_apart pair.source pair.sink x y same_name)
          ]
          | inr x ↦ elim (comes pair.sink both.1 e.sink.0 (ap (λ (p : ℕ × ℕ). p.0) pair.ends) ends.1) [
            | inl y ↦ absurd (names_apart pair.sink pair.source y x (sym same_name))
            | inr y ↦ old_edge x y olds are_old
          ]
        ]
