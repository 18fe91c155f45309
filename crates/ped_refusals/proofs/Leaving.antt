-- What a label ends, and what ELSE and END IF end, over blocks as the code keeps them.
use Rattle.std.proofs.Common.{◌≡◌, ℕ, ◌+◌, ◌<◌, ◌≤◌, Bool, true, false, ◌||◌, List, [], ◌∷◌, ◌++◌, length, take, drop, get_or, Some, refl, sym, ap, ◌∙◌, if◌then◌else◌}
use Rattle.std.proofs.lemmas.List.{take-append-drop, take_more, take_all}
use Rattle.ped_tree.specs.Grammar.Contexts as plain
use Rattle.ped_tree.specs.Grammar.Contexts.{in_then, in_else, in_do, has_do, has_if, left_by_label, left_in_if}
use Rattle.ped_tree.specs.Grammar.BlockForms.{has_label}
use Rattle.ped_refusals.specs.declared.blocks.Block.{Block}
use Rattle.ped_refusals.specs.OpenBlocks.{block_of, opened_in, blocks_of}
use Rattle.ped_refusals.proofs.Opening.{blocks_push}
use Rattle.ped_refusals.proofs.Stepping.{left_cons}

or_true : (a b : Bool) → b ≡ true → (a || b) ≡ true
or_true true b h = refl
or_true false b h = h

first_of_or : (a b : Bool) → b ≡ false → (a || b) ≡ true → a ≡ true
first_of_or true b h k = refl
first_of_or false b h k = absurd (let e : false ≡ true = sym h ∙ k in cc)

neither : (a b : Bool) → (a || b) ≡ false → (a ≡ false) × (b ≡ false)
neither true b h = absurd cc
neither false b h = (refl, h)

has_more : (l : ℕ) (b : plain.Block) (c : List plain.Block) → has_do l c ≡ true → has_do l (b ∷ c) ≡ true
has_more l (in_then n) c h = h
has_more l (in_else n) c h = h
has_more l (in_do d) c h = or_true (has_label d.label (Some l)) (has_do l c) h

-- no block has the label
not_left : (l : ℕ) (c : List plain.Block) → has_do l c ≡ false → left_by_label l c ≡ c
not_left l [] h = refl
not_left l (in_then n ∷ c) h = λ i. if h i then left_by_label l c else in_then n ∷ c
not_left l (in_else n ∷ c) h = λ i. if h i then left_by_label l c else in_else n ∷ c
not_left l (in_do d ∷ c) h =
    let p = neither (has_label d.label (Some l)) (has_do l c) h in
    λ i. if p.1 i then left_by_label l c else if p.0 i then c else in_do d ∷ c

-- the innermost block alone has it
one_left : (l : ℕ) (b : plain.Block) (c : List plain.Block) → has_do l c ≡ false → has_do l (b ∷ c) ≡ true → left_by_label l (b ∷ c) ≡ c
one_left l (in_then n) c h k = absurd (let e : false ≡ true = sym h ∙ k in cc)
one_left l (in_else n) c h k = absurd (let e : false ≡ true = sym h ∙ k in cc)
one_left l (in_do d) c h k =
    let e = first_of_or (has_label d.label (Some l)) (has_do l c) h k in
    λ i. if h i then left_by_label l c else if e i then c else in_do d ∷ c

-- a block with the label stands round others
inside_left : (l : ℕ) (outer : List plain.Block) (bs : List Block) → has_do l outer ≡ true → left_by_label l (opened_in outer bs) ≡ left_by_label l outer
inside_left l outer [] h = refl
inside_left l outer (b ∷ bs) h =
    inside_left l (block_of b ∷ outer) bs (has_more l (block_of b) outer h)
    ∙ ap (λ (t : Bool). if t then left_by_label l outer else if plain.is_loop_with l (block_of b) then outer else block_of b ∷ outer) h

opened_append : (outer : List plain.Block) (xs ys : List Block) → opened_in outer (xs ++ ys) ≡ opened_in (opened_in outer xs) ys
opened_append outer [] ys = refl
opened_append outer (x ∷ xs) ys = opened_append (block_of x ∷ outer) xs ys

-- the outermost block with the label stands at a place
pub left_at : (l : ℕ) (bs : List Block) (i : ℕ) (b : Block) → i < length bs → b ≡ get_or bs i b → has_do l (blocks_of (take i bs)) ≡ false → has_do l (block_of b ∷ blocks_of (take i bs)) ≡ true → blocks_of (take i bs) ≡ left_by_label l (blocks_of bs)
left_at l bs i b inside at h k =
    let outer = blocks_of (take i bs) in
    let whole : blocks_of bs ≡ opened_in (block_of b ∷ outer) (drop (i + 1) bs) =
    ap (opened_in []) (sym (take-append-drop i bs))
    ∙ opened_append [] (take i bs) (drop i bs)
    ∙ ap (opened_in outer) (left_cons bs i b inside at) in
    sym (ap (left_by_label l) whole ∙ inside_left l (block_of b ∷ outer) (drop (i + 1) bs) k ∙ one_left l (block_of b) outer h k)

-- the first blocks don't have it, and one more hasn't
pub none_more : (l : ℕ) (bs : List Block) (i : ℕ) (b : Block) → i < length bs → b ≡ get_or bs i b → has_do l (block_of b ∷ blocks_of (take i bs)) ≡ false → has_do l (blocks_of (take (i + 1) bs)) ≡ false
none_more l bs i b inside at h =
    ap (λ (xs : List Block). has_do l (blocks_of xs)) (take_more bs i b inside ∙ ap (λ (x : Block). take i bs ++ x ∷ []) (sym at))
    ∙ ap (has_do l) (blocks_push (take i bs) b) ∙ h

-- no block has it
pub left_nowhere : (l : ℕ) (bs : List Block) (i : ℕ) → length bs ≤ i → has_do l (blocks_of (take i bs)) ≡ false → blocks_of bs ≡ left_by_label l (blocks_of bs)
left_nowhere l bs i past h = sym (not_left l (blocks_of bs) (ap (λ (xs : List Block). has_do l (blocks_of xs)) (sym (take_all i bs past)) ∙ h))

-- no IF is open
pub no_if : (c : List plain.Block) → has_if c ≡ false → left_in_if c ≡ c
no_if [] h = refl
no_if (in_then n ∷ c) h = absurd cc
no_if (in_else n ∷ c) h = absurd cc
no_if (in_do d ∷ c) h = λ i. if h i then left_in_if c else in_do d ∷ c

-- an IF is open round the innermost loop
pub if_round : (d : plain.OpenLoop) (c : List plain.Block) → has_if c ≡ true → left_in_if c ≡ left_in_if (in_do d ∷ c)
if_round d c h = λ i. if sym h i then left_in_if c else in_do d ∷ c
