-- New names in an expansion: what is declared of them is refused for nothing but a limit, and each has as many dimensions as what it was given to.
use Rattle.std.proofs.Common.{◌≡◌, ℕ, zero, suc, ◌+◌, ℤ, List, [], ◌∷◌, ◌++◌, map, length, nat_lt, not, Bool, true, false, eqb, eqb-true, Option, Some, None, refl, sym, ap, ◌∙◌, subst, append-nil, arith, if◌then◌else◌}
use Rattle.std.specs.Prelude.{◌&&◌, ◌||◌, ◌==◌}
use Rattle.std.specs.List.{AllByRecursion, flat_map}
use Rattle.std.proofs.lemmas.Bool.{or_parts, or_from, and_left, and_right, both_ways, not-false}
use Rattle.std.proofs.lemmas.Grind.{flat_map-append}
use Rattle.std.proofs.lemmas.List.{map-append}
use Rattle.ped_base.specs.Dimensions.{Dimensions}
use Rattle.ped_base.specs.Lists.{is_same_text, is_among}
use Rattle.ped_base.proofs.NameEquality.{same_itself}
use Rattle.ped_tree.proofs.NameLaws.Collected.{among_append}
use Rattle.ped_tree.specs.Grammar.Fits.{is_no_intrinsic}
use Rattle.ped_tree.specs.Grammar.Words.{intrinsic_of}
use Rattle.ped_tree.specs.Tree.{DeclTree}
use Rattle.ped_steps.specs.ped_symbols.specs.declared.symbols.Kind.{Kind}
use Rattle.ped_steps.specs.ped_symbols.specs.declared.symbols.Kind.TheVariants.{Scalar, Array, Constant}
use Rattle.ped_steps.specs.ped_symbols.specs.declared.uses.Role.{Role}
use Rattle.ped_steps.specs.ped_symbols.specs.declared.uses.Role.TheVariants.{Typed, Dimensioned, Named, Saved, Rejected, Private, Index, Assigned, Operand}
use Rattle.ped_steps.specs.ped_symbols.specs.declared.uses.Use.{Use}
use Rattle.ped_steps.specs.ped_symbols.specs.Declarations.{Declared, is_typing, is_dimensioning, names_with, is_typed, is_constant, is_program, begins_integer, is_real, or_zero, rank_by, ranks_in, rank_of}
use Rattle.ped_steps.specs.ped_symbols.specs.Entries.{entry_of}
use Rattle.ped_steps.specs.ped_symbols.specs.Kinds.{kind_in}
use Rattle.ped_steps.specs.ped_symbols.specs.NameRefusals.{Before, differs, is_again, declares_again}
use Rattle.ped_steps.specs.ped_symbols.specs.Sites.{declaration, decl_sites}
use Rattle.ped_steps.specs.ped_symbols.specs.Uses.{used_as, bounds_uses, decl_uses}
use Rattle.ped_steps.specs.ped_symbols.proofs.RightUseLaws.Constants.{names_append}
use Rattle.ped_calls.specs.ped_units.specs.Units.{ProgramUnit, ProgramUnits}
use Rattle.ped_calls.specs.ped_units.specs.Refusals.{for_names}
use Rattle.ped_calls.specs.ped_units.specs.Linking.{IsIn, bounds_by}
use Rattle.ped_calls.specs.ped_units.specs.Expanding.{numbered_name, free_from, free_name, Given, with_new, literal_bounds, array_declaration, declared_as, with_local, nothing_given}
use Rattle.ped_steps.proofs.RunLaws.DeclaredArrays.{entry_behind, entry_before, literal_uses}
use Rattle.ped_call_runs.proofs.EachNames.{each_front, each_behind}
use Rattle.ped_call_runs.proofs.FreeWritten.{free_named}
use Rattle.ped_call_runs.proofs.WrittenNames.{IsName, AreNames, declared_names, all_declared}
use Rattle.ped_call_runs.proofs.DeclaredAtLast.{behind_decls, behind_both}
use Rattle.ped_call_runs.proofs.GivenMore.{GivesMore, gives_same, gives_then, gives_new, gives_local}
use Rattle.ped_call_runs.proofs.NamesThere.{role_used}
use Rattle.ped_call_runs.proofs.NewArrays.{IsNice, IsNiceKind}
use Rattle.ped_call_runs.proofs.ProperSites.{IsProper, AreProper, IsProperSite, AreProperSites, sites_both}
use Rattle.ped_call_runs.proofs.RightUnits.{shape_by}

-- a name that begins as a new one does
pub record IsNumbered (y : List ℕ) : Type 0 where
  pub integer : begins_integer y ≡ true
  pub intrinsic : is_no_intrinsic (intrinsic_of y) ≡ true

numbered : (n : ℕ) → IsNumbered (numbered_name n)
unfolding intrinsic_of
numbered n = record { integer = refl; intrinsic = refl }

from_numbered : (tries : ℕ) (taken : List (List ℕ)) (n : ℕ) → IsNumbered (free_from tries taken n)
from_numbered zero taken n = numbered n
from_numbered (suc tries) taken n = go (is_among (numbered_name n) taken) (from_numbered tries taken (n + 1))
  where
    go : (t : Bool) → IsNumbered (free_from tries taken (n + 1)) → IsNumbered (if t then free_from tries taken (n + 1) else numbered_name n)
    go true later = later
    go false later = numbered n

pub free_numbered : (taken : List (List ℕ)) → IsNumbered (free_name taken)
free_numbered taken = from_numbered (length taken) taken 1

-- the name is that of a variable with so many dimensions
pub record IsVariable (d : Declared) (y : List ℕ) (many : ℕ) : Type 0 where
  pub real : is_real d y ≡ false
  pub constant : is_constant d y ≡ false
  pub program : is_program d y ≡ false
  pub rank : rank_of d y ≡ many

itself : (n : ℕ) → not (n == n) ≡ false
itself n = ap not (same n)
  where
    same : (n : ℕ) → eqb n n ≡ true
    same n = grind (arith, eqb-true)

same_differs : (rank n : ℕ) → rank ≡ n → differs rank (Some n) ≡ false
same_differs rank n e = ap (λ (m : ℕ). differs m (Some n)) e ∙ itself n

-- so many subscripts as the name has dimensions
pub differs_not : (rank n : ℕ) → differs rank (Some n) ≡ false → rank ≡ n
differs_not rank n h = sym (eqb-true n rank (not-false (n == rank) h))

-- such uses of a variable are proper
module _ (d : Declared) (y : List ℕ) (rank : ℕ) (v : IsVariable d y rank) where
  pub operand_proper : (n : ℕ) → rank ≡ n → IsProper d (used_as (Operand n) y)
  operand_proper n e = record { real = v.real; constant = and_right (nat_lt 0 n) (is_constant d y) v.constant; program = and_left (is_program d y) (not (is_constant d y)) v.program; rank = same_differs (rank_of d y) n (v.rank ∙ e); array = refl }

  pub assigned_proper : (n : ℕ) → rank ≡ n → IsProper d (used_as (Assigned n) y)
  assigned_proper n e = record { real = v.real; constant = v.constant; program = and_left (is_program d y) (not (is_constant d y)) v.program; rank = same_differs (rank_of d y) n (v.rank ∙ e); array = refl }

  pub index_proper : rank ≡ 0 → IsProper d (used_as Index y)
  index_proper e = record { real = v.real; constant = v.constant; program = and_left (is_program d y) (not (is_constant d y)) v.program; rank = same_differs (rank_of d y) 0 (v.rank ∙ e); array = refl }

  pub private_proper : rank ≡ 0 → IsProper d (used_as Private y)
  private_proper e = record { real = v.real; constant = v.constant; program = and_left (is_program d y) (not (is_constant d y)) v.program; rank = same_differs (rank_of d y) 0 (v.rank ∙ e); array = refl }

-- what declarations say, with arrays declared after them
abbrev pub with_arrays : Declared → List DeclTree → Declared
with_arrays d arrays = record { implicit = d.implicit; program = d.program; uses = d.uses ++ flat_map decl_uses arrays }

-- a declaration of an array by literals
pub record DeclaresNice (t : DeclTree) : Type 0 where
  pub name : List ℕ
  pub dimensions : Dimensions
  pub nice : IsNice dimensions
  pub is : t ≡ array_declaration name dimensions

abbrev pub AreNiceDecls : List DeclTree → Type 0
AreNiceDecls ds = AllByRecursion DeclaresNice ds

pub nice_both : (ds es : List DeclTree) → AreNiceDecls ds → AreNiceDecls es → AreNiceDecls (ds ++ es)
nice_both [] es h k = k
nice_both (d ∷ ds) es h k = (h.0, nice_both ds es h.1 k)

nice_front : (ds es : List DeclTree) → AreNiceDecls (ds ++ es) → AreNiceDecls ds
nice_front [] es h = tt
nice_front (d ∷ ds) es h = (h.0, nice_front ds es h.1)

nice_behind : (ds es : List DeclTree) → AreNiceDecls (ds ++ es) → AreNiceDecls es
nice_behind [] es h = h
nice_behind (d ∷ ds) es h = nice_behind ds es h.1

-- bounds that are literals have no names
literals_unused : (lower upper : List ℤ) → bounds_uses (literal_bounds lower upper) ≡ []
literals_unused [] upper = refl
literals_unused (l ∷ lower) [] = refl
literals_unused (l ∷ lower) (u ∷ upper) = λ i. (literal_uses l i ++ literal_uses u i) ++ literals_unused lower upper i

-- the uses in such a declaration
two_uses : (y : List ℕ) (d : Dimensions) → IsNice d → decl_uses (array_declaration y d) ≡ used_as Typed y ∷ used_as (Dimensioned (length (literal_bounds d.lower d.upper))) y ∷ []
two_uses y d nice =
    let n = length (literal_bounds d.lower d.upper) in
    λ i. (used_as Typed y ∷ (if nice.some i then used_as (Dimensioned n) y ∷ literals_unused d.lower d.upper i else [])) ++ []

-- ranks that declarations give
abbrev ranks_of : List DeclTree → List (List ℕ × ℕ)
ranks_of ds = ranks_in (flat_map decl_uses ds)

ranks_append : (us vs : List Use) → ranks_in (us ++ vs) ≡ ranks_in us ++ ranks_in vs
ranks_append us vs = flat_map-append (λ u. rank_by u.name u.role) us vs

ranks_both : (ds es : List DeclTree) → ranks_of (ds ++ es) ≡ ranks_of ds ++ ranks_of es
ranks_both ds es = ap ranks_in (flat_map-append decl_uses ds es) ∙ ranks_append (flat_map decl_uses ds) (flat_map decl_uses es)

nice_ranks : (y : List ℕ) (d : Dimensions) → IsNice d → (more : List Use) → ranks_in (decl_uses (array_declaration y d) ++ more) ≡ (y, length (literal_bounds d.lower d.upper)) ∷ ranks_in more
nice_ranks y d nice more = ap (λ (us : List Use). ranks_in (us ++ more)) (two_uses y d nice)

undeclared_rank : (ds : List DeclTree) → AreNiceDecls ds → (y : List ℕ) → is_among y (all_declared ds) ≡ false → entry_of (ranks_of ds) y ≡ None
undeclared_rank [] nice y h = refl
undeclared_rank (t ∷ ds) nice y h =
    subst (λ (z : DeclTree). is_among y (all_declared (z ∷ ds)) ≡ false → entry_of (ranks_of (z ∷ ds)) y ≡ None) (sym nice.0.is)
    (λ k.
    let parts = or_parts (is_same_text y nice.0.name) (is_among y (all_declared ds)) k in
    ap (λ (es : List (List ℕ × ℕ)). entry_of es y) (nice_ranks nice.0.name nice.0.dimensions nice.0.nice (flat_map decl_uses ds))
    ∙ ap (λ (b : Bool). if b then Some (length (literal_bounds nice.0.dimensions.lower nice.0.dimensions.upper)) else entry_of (ranks_of ds) y) parts.0
    ∙ undeclared_rank ds nice.1 y parts.1) h

-- a name that isn't used is given no dimensions
unused_rank : (us : List Use) (y : List ℕ) → is_among y (map (λ u. u.name) us) ≡ false → entry_of (ranks_in us) y ≡ None
unused_rank [] y h = refl
unused_rank (u ∷ us) y h =
    let parts = or_parts (is_same_text y u.name) (is_among y (map (λ v. v.name) us)) h in
    go u.role parts.0 (unused_rank us y parts.1)
  where
    go : (role : Role) → is_same_text y u.name ≡ false → entry_of (ranks_in us) y ≡ None → entry_of (rank_by u.name role ++ ranks_in us) y ≡ None
    go (Dimensioned n) e more = ap (λ (b : Bool). if b then Some n else entry_of (ranks_in us) y) e ∙ more
    go Typed e more = more
    go Named e more = more
    go Saved e more = more
    go Rejected e more = more
    go Private e more = more
    go Index e more = more
    go (Assigned n) e more = more
    go (Operand n) e more = more

unused_role : (test : Role → Bool) (us : List Use) (y : List ℕ) → is_among y (map (λ u. u.name) us) ≡ false → is_among y (names_with test us) ≡ false
unused_role test us y h = go (is_among y (names_with test us)) refl
  where
    go : (t : Bool) → is_among y (names_with test us) ≡ t → t ≡ false
    go false e = refl
    go true e = absurd (both_ways (is_among y (map (λ u. u.name) us)) h (role_used test us y e))

-- a name that is neither declared nor used before
pub record IsFresh (d : Declared) (b : Before) (y : List ℕ) : Type 0 where
  pub constant : is_constant d y ≡ false
  pub program : is_program d y ≡ false
  pub unused : is_among y (map (λ u. u.name) b.uses) ≡ false

-- such a name is of type INTEGER
integer_not_real : (a b c : Bool) → b ≡ true → (not a && not b && not c) ≡ false
integer_not_real true b c e = refl
integer_not_real false b c e = ap (λ (t : Bool). not false && not t && not c) e

pub numbered_not_real : (d : Declared) (y : List ℕ) → IsNumbered y → is_real d y ≡ false
numbered_not_real d y n = integer_not_real d.implicit (begins_integer y) (is_typed d y) n.integer

-- the declaration of an array with a fresh name
module _ (d : Declared) (b : Before) (y : List ℕ) (a : Dimensions) (nice : IsNice a) (n : IsNumbered y) (fresh : IsFresh d b y) where
  abbrev many : ℕ
  many = length (literal_bounds a.lower a.upper)

  typed : IsProper d (used_as Typed y)
  typed = record { real = numbered_not_real d y n; constant = refl; program = and_left (is_program d y) (not (is_constant d y)) fresh.program; rank = refl; array = refl }

  dimensioned : IsProper d (used_as (Dimensioned many) y)
  dimensioned = record { real = numbered_not_real d y n; constant = fresh.constant; program = and_left (is_program d y) (not (is_constant d y)) fresh.program; rank = refl; array = ap not n.intrinsic }

  not_typed : is_again b.uses (used_as Typed y) ≡ false
  not_typed = ap (λ (t : Bool). t || false || false || false) (unused_role is_typing b.uses y fresh.unused)

  not_dimensioned : is_again (b.uses ++ used_as Typed y ∷ []) (used_as (Dimensioned many) y) ≡ false
  not_dimensioned = ap (λ (t : Bool). t || false || false) (ap (is_among y) (names_append is_dimensioning b.uses (used_as Typed y ∷ []) ∙ append-nil (names_with is_dimensioning b.uses)) ∙ unused_role is_dimensioning b.uses y fresh.unused)

  pub declared_proper : IsProperSite d b (declaration (array_declaration y a))
  declared_proper = record {
    uses = subst (AreProper d) (sym (two_uses y a nice)) (typed, (dimensioned, tt));
    once = ap (declares_again b.uses) (two_uses y a nice) ∙ (λ i. not_typed i || (not_dimensioned i || false));
    values = ap (λ (t : Bool). t || false) (nice.fine b.values);
    bounds = ap (λ (t : Bool). t || false) (nice.full b.values);
  }

-- all that is given so far is declared as it may be
module _ (us : ProgramUnits) (d : Declared) (b : Before) (fresh : (y : List ℕ) → is_among y (nothing_given us).taken ≡ false → IsFresh d b y)
    (nice : (u : ProgramUnit) → IsIn u us.others → (x : List ℕ) → IsNiceKind (kind_in (for_names u) x)) where
  pub record Sound (g : Given) : Type 0 where
    pub grown : GivesMore (nothing_given us) g
    pub decls : AreNiceDecls g.arrays
    pub unused : (y : List ℕ) → is_among y g.taken ≡ false → is_among y (map (λ u. u.name) (behind_decls b g.arrays).uses) ≡ false
    pub proper : AreNames (all_declared g.arrays) → AreProperSites d b (flat_map decl_sites g.arrays)

  untaken : (y : List ℕ) (xs ys : List (List ℕ)) → is_among y (xs ++ ys) ≡ false → (is_among y xs ≡ false) × (is_among y ys ≡ false)
  untaken y xs ys h = or_parts (is_among y xs) (is_among y ys) (sym (among_append y xs ys) ∙ h)

  pub sound_first : Sound (nothing_given us)
  sound_first = record { grown = gives_same (nothing_given us); decls = tt; unused = λ y h. (fresh y h).unused; proper = λ names. tt }

  pub sound_new : (g : Given) → Sound g → Sound (with_new g)
  sound_new g h = record {
    grown = gives_then (nothing_given us) g (with_new g) h.grown (gives_new g);
    decls = h.decls;
    unused = λ y k. h.unused y (untaken y g.taken (free_name g.taken ∷ []) k).0;
    proper = h.proper;
  }

  sound_same : (g : Given) → Sound g → Sound (record { taken = g.taken ++ free_name g.taken ∷ []; arrays = g.arrays ++ [] })
  sound_same g h = subst Sound (λ i. record { taken = g.taken ++ free_name g.taken ∷ []; arrays = sym (append-nil g.arrays) i }) (sound_new g h)

  sound_array : (g : Given) (a : Dimensions) → IsNice a → Sound g → Sound (with_local g (Some (Array a)))
  sound_array g a good h = record {
    grown = gives_then (nothing_given us) g (with_local g (Some (Array a))) h.grown (gives_local g (Some (Array a)));
    decls = nice_both g.arrays (t ∷ []) h.decls (record { name = y; dimensions = a; nice = good; is = refl }, tt);
    unused = unused;
    proper = proper;
  }
    where
      y : List ℕ
      y = free_name g.taken

      t : DeclTree
      t = array_declaration y a

      before : Before
      before = behind_decls b g.arrays

      unused : (z : List ℕ) → is_among z (g.taken ++ y ∷ []) ≡ false → is_among z (map (λ u. u.name) (behind_decls b (g.arrays ++ t ∷ [])).uses) ≡ false
      unused z k =
          let parts = untaken z g.taken (y ∷ []) k in
          ap (λ (c : Before). is_among z (map (λ u. u.name) c.uses)) (behind_both b g.arrays (t ∷ []))
          ∙ ap (is_among z) (map-append (λ u. u.name) before.uses (decl_uses t))
          ∙ among_append z (map (λ u. u.name) before.uses) (map (λ u. u.name) (decl_uses t))
          ∙ or_from _ _ (h.unused z parts.0)
          (ap (λ (uses : List Use). is_among z (map (λ u. u.name) uses)) (two_uses y a good) ∙ (λ i. (or_parts (is_same_text z y) false parts.1).0 i || ((or_parts (is_same_text z y) false parts.1).0 i || false)))

      here : IsName y → IsProperSite d before (declaration t)
      here is =
          let free : is_among y g.taken ≡ false = free_named g.taken is in
          let at_start = fresh y (untaken y (nothing_given us).taken h.grown.more (ap (is_among y) (sym h.grown.taken) ∙ free)).0 in
          declared_proper d before y a good (free_numbered g.taken) (record { constant = at_start.constant; program = at_start.program; unused = h.unused y free })

      proper : AreNames (all_declared (g.arrays ++ t ∷ [])) → AreProperSites d b (flat_map decl_sites (g.arrays ++ t ∷ []))
      proper names =
          let all = subst AreNames (flat_map-append declared_names g.arrays (t ∷ [])) names in
          subst (AreProperSites d b) (sym (flat_map-append decl_sites g.arrays (t ∷ [])))
          (sites_both d b (flat_map decl_sites g.arrays) (declaration t ∷ []) (h.proper (each_front IsName (all_declared g.arrays) (y ∷ []) all)) (here (each_behind IsName (all_declared g.arrays) (y ∷ []) all).0, tt))

  pub sound_local : (g : Given) (u : ProgramUnit) (x : List ℕ) → IsIn u us.others → Sound g → Sound (with_local g (kind_in (for_names u) x))
  sound_local g u x is h = go (kind_in (for_names u) x) (nice u is x)
    where
      go : (kind : Option Kind) → IsNiceKind kind → Sound (with_local g kind)
      go None k = sound_same g h
      go (Some Scalar) k = sound_same g h
      go (Some (Constant n)) k = sound_same g h
      go (Some (Array a)) k = sound_array g a k h

-- names after all that is given: those that are given, and those of the main program
module _ (us : ProgramUnits) (d : Declared) (top : Given) (all : GivesMore (nothing_given us) top) (decls : AreNiceDecls top.arrays) (names : AreNames (all_declared top.arrays)) where
  abbrev whole : Declared
  whole = with_arrays d top.arrays

  ranks_whole : (x : List ℕ) → entry_of (ranks_in whole.uses) x ≡ entry_of (ranks_in d.uses ++ ranks_of top.arrays) x
  ranks_whole x = ap (λ (es : List (List ℕ × ℕ)). entry_of es x) (ranks_append d.uses (flat_map decl_uses top.arrays))

  -- a name that is taken at first has the dimensions that it had
  pub old_rank : (x : List ℕ) → is_among x (nothing_given us).taken ≡ true → is_constant whole x ≡ is_constant d x → rank_of whole x ≡ rank_of d x
  old_rank x taken same =
      let undeclared : is_among x (all_declared top.arrays) ≡ false = ap (λ (ds : List DeclTree). is_among x (all_declared ds)) all.arrays ∙ all.apart (subst (λ (ds : List DeclTree). AreNames (all_declared ds)) all.arrays names) x taken in
      λ i. if same i then 0 else or_zero ((ranks_whole x ∙ entry_before (ranks_in d.uses) (ranks_of top.arrays) x (undeclared_rank top.arrays decls x undeclared)) i)

  -- a new name that is given to something of this kind has its dimensions
  module _ (g h : Given) (before : GivesMore (nothing_given us) g) (later : GivesMore h top) (kind : Option Kind) (new : h.taken ≡ g.taken ++ free_name g.taken ∷ []) (same : h.arrays ≡ g.arrays ++ declared_as (free_name g.taken) kind) (good : IsNiceKind kind)
      (is : IsName (free_name g.taken)) (unused : is_among (free_name g.taken) (map (λ u. u.name) d.uses) ≡ false) where
    abbrev y : List ℕ
    y = free_name g.taken

    abbrev own : List DeclTree
    own = declared_as y kind

    free : is_among y g.taken ≡ false
    free = free_named g.taken is

    parts : top.arrays ≡ (g.arrays ++ own) ++ later.decls
    parts = later.arrays ∙ ap (λ (ds : List DeclTree). ds ++ later.decls) same

    nice_parts : AreNiceDecls ((g.arrays ++ own) ++ later.decls)
    nice_parts = subst AreNiceDecls parts decls

    names_later : AreNames (all_declared later.decls)
    names_later =
        each_behind IsName (all_declared (g.arrays ++ own)) (all_declared later.decls)
        (subst AreNames (flat_map-append declared_names (g.arrays ++ own) later.decls) (subst (λ (ds : List DeclTree). AreNames (all_declared ds)) parts names))

    taken_then : is_among y h.taken ≡ true
    taken_then = ap (is_among y) new ∙ among_append y g.taken (y ∷ []) ∙ ap (λ (t : Bool). is_among y g.taken || (t || false)) (same_itself y) ∙ either (is_among y g.taken)
      where
        either : (t : Bool) → t || true ≡ true
        either true = refl
        either false = refl

    unmore : is_among y before.more ≡ false
    unmore = (or_parts (is_among y (nothing_given us).taken) (is_among y before.more) (sym (among_append y (nothing_given us).taken before.more) ∙ ap (is_among y) (sym before.taken) ∙ free)).1

    in_front : entry_of (ranks_of g.arrays) y ≡ None
    in_front = undeclared_rank g.arrays (nice_front g.arrays own (nice_front (g.arrays ++ own) later.decls nice_parts)) y (ap (λ (ds : List DeclTree). is_among y (all_declared ds)) before.arrays ∙ before.inside y unmore)

    behind : entry_of (ranks_of later.decls) y ≡ None
    behind = undeclared_rank later.decls (nice_behind (g.arrays ++ own) later.decls nice_parts) y (later.apart names_later y taken_then)

    own_rank : (k : Option Kind) → IsNiceKind k → or_zero (entry_of (ranks_of (declared_as y k)) y) ≡ shape_by (bounds_by k)
    own_rank None n = refl
    own_rank (Some Scalar) n = refl
    own_rank (Some (Constant m)) n = refl
    own_rank (Some (Array a)) n =
        ap (λ (es : List (List ℕ × ℕ)). or_zero (entry_of es y)) (nice_ranks y a n [])
        ∙ ap (λ (t : Bool). or_zero (if t then Some (length (literal_bounds a.lower a.upper)) else None)) (same_itself y)
        ∙ n.long

    found : entry_of (ranks_in whole.uses) y ≡ entry_of (ranks_of own) y
    found =
        ranks_whole y
        ∙ entry_behind (ranks_in d.uses) (ranks_of top.arrays) y (unused_rank d.uses y unused)
        ∙ ap (λ (ds : List DeclTree). entry_of (ranks_of ds) y) parts
        ∙ ap (λ (es : List (List ℕ × ℕ)). entry_of es y) (ranks_both (g.arrays ++ own) later.decls)
        ∙ entry_before (ranks_of (g.arrays ++ own)) (ranks_of later.decls) y behind
        ∙ ap (λ (es : List (List ℕ × ℕ)). entry_of es y) (ranks_both g.arrays own)
        ∙ entry_behind (ranks_of g.arrays) (ranks_of own) y in_front

    pub new_variable : is_constant whole y ≡ false → is_program whole y ≡ false → IsVariable whole y (shape_by (bounds_by kind))
    new_variable constant program = record {
      real = numbered_not_real whole y (free_numbered g.taken);
      constant = constant;
      program = program;
      rank = (λ i. if constant i then 0 else or_zero (found i)) ∙ own_rank kind good;
    }
