-- The moves of the blocks lead, one block after the other.
use Rattle.std.proofs.Common.{◌≡◌, ◌≢◌, ℕ, zero, suc, ◌+◌, ◌<◌, ◌≤◌, inl, inr, Bool, true, false, ◌&&◌, ◌||◌, nat_lt, if◌then◌else◌, List, [], ◌∷◌, ◌++◌, length, map, slice_index, slice_index_or, Contains, refl, sym, ap, ap₂, ◌∙◌, subst, arith, add-one, eqb-true}
use Rattle.std.specs.List.{list_any}
use Rattle.std.proofs.Math.Path.{fun_ext}
use Rattle.std.proofs.lemmas.Bool.{true≢false, cases_Bool, cases_eq, cases_lt, both_ways, cond-true, cond-false, and_from, lt-ltb, le-ltb, or_left, or_right}
use Rattle.permutations.specs.Members.{is_member, place_of}
use Rattle.permutations.proofs.Members.{member-cases}
use Rattle.permutations.proofs.Arrangements.{member-at, contains-from_member, member-from_contains}
use Rattle.permutations.proofs.Places.{place-below, place-holds}
use Rattle.multigraph.specs.Graph.{Multigraph}
use Rattle.multigraph.specs.Part.{IsNumbered, IsEndOf}
use Rattle.blocks.specs.Blocks.{block_at}
use Rattle.rotations.specs.Rotation.{IsRotationSystem}
use Rattle.faces.specs.Euler.{IsPlaneSystem}
use Rattle.skeletons.specs.Items.{IsBlockTree}
use Rattle.skeletons.specs.Moves as theory
use Rattle.skeleton_choices.proofs.Reached.{lead}
use Rattle.whole_embed.specs.Component.{Component, BlockInPlane, component_of, IsComponentInPlane}
use Rattle.whole_embed.specs.Around.{edges_around, block_with, arrangements_around}
use Rattle.whole_embed.specs.Whole.{block_part, AreArranged, IsWholeMember}
use Rattle.whole_embed.specs.Walk.{first_around}
use Rattle.whole_embed.proofs.Outer.{place-rising}
use Rattle.whole_embed.proofs.Components.{edge-in, block-edge}
use Rattle.whole_embed.proofs.Arranging.{part-of, edge-around, of-block}
use Rattle.whole_embed.proofs.Assembled.{IsAssembled}
use Rattle.whole_embed.proofs.Assembly.{assembled}
use Rattle.whole_embed.proofs.Assembling.{of-component, whole_is_plane}
use Rattle.whole_embed.proofs.WalkSteps.{first-has}
use Rattle.whole_convert.specs.Between.{WholeStep, moves_of, moves_below, is_moved, has_block_at, list_then, blocks_to, move_block}
use Rattle.whole_convert.specs.Leading.{WholeState, BlockLeads, LeadThroughPlane}
use Rattle.whole_convert.proofs.StepLists.{around-edge, any-same}
use Rattle.whole_convert.proofs.Stages.{with-rotation, with-one, one-here, one-other, arrangements-same, first-same, listed, listed-length, listed-at, listed-is, listed-arranged, done, done-here, done-none, done-all, begins, ends, own-plane, stage-plane}

-- blocks and lists
abbrev pub state : (ℕ → BlockInPlane) → List (List ℕ) → WholeState
state block lists = record { block = block; lists = lists }

-- some steps, then others
pub lead-append : (k : Component) (xs ys : List WholeStep) (s t u : WholeState) → LeadThroughPlane k xs s t → LeadThroughPlane k ys t u → LeadThroughPlane k (xs ++ ys) s u
lead-append k [] ys s t u e h = subst (λ (z : WholeState). LeadThroughPlane k ys z u) (sym e) h
lead-append k (x ∷ xs) ys s t u a h = (a.0, a.1, a.2, lead-append k xs ys a.0 t u a.3 h)

-- tests on lists
any-from : (p : ℕ → Bool) (l : List ℕ) (x : ℕ) → is_member x l ≡ true → p x ≡ true → list_any p l ≡ true
any-from p [] x m h = absurd (both_ways (is_member x []) refl m)
any-from p (y ∷ l) x m h = elim (member-cases x y l m) [
  | inl e ↦ or_left (p y) (list_any p l) (subst (λ z. p z ≡ true) (sym e) h)
  | inr n ↦ or_right (p y) (list_any p l) (any-from p l x n h)
]

any-none : (p : ℕ → Bool) (l : List ℕ) → ((x : ℕ) → p x ≡ false) → list_any p l ≡ false
any-none p [] h = refl
any-none p (x ∷ l) h = ap₂ ◌||◌ (h x) (any-none p l h)

-- a block has an edge around each of its vertices
record HasEdge (k : Component) (b v : ℕ) : Type 0 where
  edge : ℕ
  around : is_member edge (edges_around k v) ≡ true
  of_block : block_with k edge ≡ b

edge-of : (k : Component) (block : ℕ → BlockInPlane) → IsComponentInPlane k block → (b v : ℕ) → is_member b k.blocks ≡ true → is_member v k.part.vertices ≡ true → is_member v (block b).part.vertices ≡ true → HasEdge k b v
edge-of k block w b v mb mv m = of-component (λ (z : Component). is_member b z.blocks ≡ true → is_member v z.part.vertices ≡ true → HasEdge z b v) k block w made mb mv
  where
    made : is_member b (component_of w.graph w.structure w.number).blocks ≡ true → is_member v (component_of w.graph w.structure w.number).part.vertices ≡ true → HasEdge (component_of w.graph w.structure w.number) b v
    made n mv =
        let p = part-of w.graph w.structure w.number w.is_structure w.is_graph w.limits block w.blocks b n in
        let i : IsEndOf w.graph (block_at w.structure.blocks b) v = (p.vertices v).0 (contains-from_member (block b).part.vertices v m) in
        let me : is_member i.edge (block_at w.structure.blocks b) ≡ true = member-from_contains (block_at w.structure.blocks b) i.edge i.among in
        let there = block-edge w.graph w.structure w.number w.is_structure w.is_graph b i.edge n me in
        record {
          edge = i.edge;
          around = edge-around w.graph w.structure w.number w.is_structure w.is_graph w.limits block w.blocks v i.edge mv (edge-in w.graph w.structure w.number w.is_structure i.edge there).0 i.ends_there;
          of_block = eqb-true (block_with (component_of w.graph w.structure w.number) i.edge) b (of-block w.graph w.structure w.number w.is_structure w.is_graph w.limits block w.blocks b n i.edge there ∙ me);
        }

module _ (k : Component) (block : ℕ → BlockInPlane) (lists q : List (List ℕ)) (is : IsComponentInPlane k block) (are : AreArranged k block lists) (m : IsWholeMember k block q) where
  made : IsAssembled k block
  made = assembled k block is

  -- the first n blocks with their parts
  abbrev D : ℕ → ℕ → BlockInPlane
  D n = done k block q n

  abbrev cut : ℕ → ℕ
  cut i = slice_index k.cuts i

  cut-vertex : (i : ℕ) → i < length k.cuts → is_member (slice_index k.cuts i) k.part.vertices ≡ true
  cut-vertex i l = made.cuts_in (cut i) (member-at k.cuts i 0 l)

  module _ (n : ℕ) (l : n < length k.blocks) where
    abbrev b : ℕ
    b = slice_index k.blocks n

    abbrev a : BlockInPlane
    a = block (slice_index k.blocks n)

    -- its part
    abbrev p : List (List ℕ)
    p = block_part k (block (slice_index k.blocks n)).part q

    among : is_member (slice_index k.blocks n) k.blocks ≡ true
    among = member-at k.blocks n 0 l

    abbrev B : List (List ℕ) → ℕ → BlockInPlane
    B r = with-one (D n) b r

    here : (r : List (List ℕ)) → B r (slice_index k.blocks n) ≡ with-rotation (block (slice_index k.blocks n)) r
    here r = one-here (D n) b r ∙ ap (λ (z : BlockInPlane). with-rotation z r) (done-here k block q made n l)

    to-done : (P : BlockInPlane → Type 0) → P (block (slice_index k.blocks n)) → P (done k block q n (slice_index k.blocks n))
    to-done P h = subst P (sym (done-here k block q made n l)) h

    abbrev G : Multigraph
    G = a.part.graph

    -- whether the block has the cut vertex at place i
    abbrev has : ℕ → Bool
    has i = is_member (cut i) a.part.vertices

    part-plane : IsPlaneSystem (block (slice_index k.blocks n)).part.graph (block_part k (block (slice_index k.blocks n)).part q)
    part-plane = (m.kept b among).plane

    in-plane : (r : List (List ℕ)) → IsPlaneSystem (block (slice_index k.blocks n)).part.graph r → IsComponentInPlane k (B r)
    in-plane r h = stage-plane k block q is m n b r among h

    apart : (r s : List (List ℕ)) (i : ℕ) → IsPlaneSystem (block (slice_index k.blocks n)).part.graph r → IsPlaneSystem (block (slice_index k.blocks n)).part.graph s → has i ≡ false
        → arrangements_around k (B r) (slice_index k.cuts i) ≡ arrangements_around k (B s) (slice_index k.cuts i)
    apart r s i hr hs f = arrangements-same (D n) b (cut i) (to-done (λ z. IsNumbered z.part) (made.parts b among)) r s (to-done (λ z. IsRotationSystem z.part.graph r) hr.system) (to-done (λ z. IsRotationSystem z.part.graph s) hs.system)
        (to-done (λ z. is_member (cut i) z.part.vertices ≡ false) f) k

    apart-first : (r s : List (List ℕ)) (i : ℕ) → IsPlaneSystem (block (slice_index k.blocks n)).part.graph r → IsPlaneSystem (block (slice_index k.blocks n)).part.graph s → has i ≡ false
        → first_around k (B r) i ≡ first_around k (B s) i
    apart-first r s i hr hs f = first-same (D n) b (cut i) (to-done (λ z. IsNumbered z.part) (made.parts b among)) r s (to-done (λ z. IsRotationSystem z.part.graph r) hr.system) (to-done (λ z. IsRotationSystem z.part.graph s) hs.system)
        (to-done (λ z. is_member (cut i) z.part.vertices ≡ false) f) k

    -- the lists after moves of the block
    abbrev reset : List (List ℕ) → (ℕ → List ℕ) → ℕ → List ℕ
    reset r f i = (if has i then first_around k (B r) i else f i)

    abbrev after : List theory.Move → (ℕ → List ℕ) → ℕ → List ℕ
    after [] f = f
    after (move ∷ moves) f = reset p f

    abbrev Moves : List theory.Move → List (List ℕ) → Type 0
    Moves moves r = theory.Lead G a.nodes (IsPlaneSystem G) moves r p

    -- all lists are arrangements
    abbrev Right : List (List ℕ) → (ℕ → List ℕ) → Type 0
    Right r f = (i : ℕ) → i < length k.cuts → Contains (arrangements_around k (B r) (cut i)) (f i)

    reset-right : (r s : List (List ℕ)) (f : ℕ → List ℕ) → IsPlaneSystem G r → IsPlaneSystem G s → Right r f → Right s (reset s f)
    reset-right r s f hr hs h i c = elim (cases_Bool (has i)) [
      | inl y ↦ subst (λ (z : List ℕ). Contains (arrangements_around k (B s) (cut i)) z) (sym (cond-true (has i) (first_around k (B s) i) (f i) y)) (first-has k (B s) (in-plane s hs) i c)
      | inr y ↦ subst (λ (z : List ℕ). Contains (arrangements_around k (B s) (cut i)) z) (sym (cond-false (has i) (first_around k (B s) i) (f i) y)) (subst (λ (z : List (List ℕ)). Contains z (f i)) (apart r s i hr hs y) (h i c))
    ]

    after-right : (moves : List theory.Move) (r : List (List ℕ)) (f : ℕ → List ℕ) → IsPlaneSystem G r → Right r f → Moves moves r → Right p (after moves f)
    after-right [] r f hr h e = subst (λ (z : List (List ℕ)). Right z f) e h
    after-right (move ∷ moves) r f hr h e = reset-right r p f hr part-plane h

    after-more : (moves : List theory.Move) (s : List (List ℕ)) (f : ℕ → List ℕ) → Moves moves s → after moves (reset s f) ≡ reset p f
    after-more [] s f e = λ j. reset (e j) f
    after-more (move ∷ moves) s f e = fun_ext (λ i. elim (cases_Bool (has i)) [
      | inl y ↦ cond-true (has i) (first_around k (B p) i) (reset s f i) y ∙ sym (cond-true (has i) (first_around k (B p) i) (f i) y)
      | inr y ↦ cond-false (has i) (first_around k (B p) i) (reset s f i) y ∙ (cond-false (has i) (first_around k (B s) i) (f i) y ∙ sym (cond-false (has i) (first_around k (B p) i) (f i) y))
    ])

    -- a move of the block
    move-leads : (move : theory.Move) (r s : List (List ℕ)) (f : ℕ → List ℕ) → theory.MoveLeads G a.nodes move r s → BlockLeads k b move (state (B r) (listed k f)) (state (B s) (listed k (reset s f)))
    move-leads move r s f h = record {
      among = among;
      leads = subst (λ (z : BlockInPlane). theory.MoveLeads z.part.graph z.nodes move z.rotation (B s b).rotation) (sym (here r)) (subst (λ (z : BlockInPlane). theory.MoveLeads G a.nodes move r z.rotation) (sym (here s)) h);
      part = ap (λ (z : BlockInPlane). z.part) (here s) ∙ sym (ap (λ (z : BlockInPlane). z.part) (here r));
      nodes = ap (λ (z : BlockInPlane). z.nodes) (here s) ∙ sym (ap (λ (z : BlockInPlane). z.nodes) (here r));
      locks = ap (λ (z : BlockInPlane). z.locks) (here s) ∙ sym (ap (λ (z : BlockInPlane). z.locks) (here r));
      others = λ c d. one-other (D n) b c s d ∙ sym (one-other (D n) b c r d);
      each = listed-length k (reset s f);
      first = λ i c y. listed-at k (reset s f) i c ∙ cond-true (has i) (first_around k (B s) i) (f i) (sym (ap (λ (z : BlockInPlane). is_member (cut i) z.part.vertices) (here r)) ∙ y);
      stays = λ i c y. listed-at k (reset s f) i c ∙ (cond-false (has i) (first_around k (B s) i) (f i) (sym (ap (λ (z : BlockInPlane). is_member (cut i) z.part.vertices) (here r)) ∙ y) ∙ sym (listed-at k f i c));
    }

    -- all moves of the block
    moves-lead : (moves : List theory.Move) (r : List (List ℕ)) (f : ℕ → List ℕ) → IsPlaneSystem G r → Right r f → Moves moves r
        → LeadThroughPlane k (map (move_block b) moves) (state (B r) (listed k f)) (state (B p) (listed k (after moves f)))
    moves-lead [] r f hr h e = λ j. state (B (e j)) (listed k f)
    moves-lead (move ∷ moves) r f hr h e =
        let s : List (List ℕ) = e.0 in
        let g : ℕ → List ℕ = reset e.0 f in
        let right : Right e.0 g = reset-right r e.0 f hr e.2 h in (
          state (B e.0) (listed k g),
          move-leads move r e.0 f e.1,
          whole_is_plane k (B e.0) (listed k g) (in-plane e.0 e.2) (listed-arranged k (B e.0) g right),
          subst (λ (z : ℕ → List ℕ). LeadThroughPlane k (map (move_block b) moves) (state (B e.0) (listed k g)) (state (B p) (listed k z))) (after-more moves e.0 f e.3) (moves-lead moves e.0 g e.2 right e.3),
        )

  -- the blocks with all parts
  abbrev to : ℕ → BlockInPlane
  to = blocks_to k block q

  -- whether one of the first n blocks around the vertex is moved
  abbrev counts : ℕ → ℕ → Bool
  counts n c = is_moved block to c && nat_lt (place_of k.blocks c) n

  abbrev T : ℕ → ℕ → Bool
  T n i = has_block_at k (counts n) (cut i)

  -- the list at cut vertex i after the moves of the first n blocks
  abbrev L : ℕ → ℕ → List ℕ
  L n i = (if T n i then first_around k (D n) i else slice_index_or lists i [])

  block-around : (i e : ℕ) → is_member e (edges_around k (cut i)) ≡ true → is_member (block_with k e) k.blocks ≡ true
  block-around i e h = (made.edge_block e (around-edge k made.numbered (cut i) e h)).0

  counts-none : (c : ℕ) → counts 0 c ≡ false
  counts-none c = elim (cases_Bool (is_moved block to c)) [
    | inl y ↦ ap₂ ◌&&◌ y (le-ltb (place_of k.blocks c) 0 (omega arith))
    | inr f ↦ ap (λ z. z && nat_lt (place_of k.blocks c) 0) f
  ]

  T-none : (i : ℕ) → T 0 i ≡ false
  T-none i = any-none (λ e. counts 0 (block_with k e)) (edges_around k (cut i)) (λ e. counts-none (block_with k e))

  module _ (n : ℕ) (l : n < length k.blocks) where
    abbrev c : ℕ
    c = slice_index k.blocks n

    at-place : (d : ℕ) → is_member d k.blocks ≡ true → place_of k.blocks d ≡ n → d ≡ slice_index k.blocks n
    at-place d h e = sym (place-holds k.blocks d h) ∙ ap (slice_index k.blocks) e

    -- a block that is not next counts as before
    counts-other : (d : ℕ) → place_of k.blocks d ≢ n → counts (n + 1) d ≡ counts n d
    counts-other d h =
        let same : nat_lt (place_of k.blocks d) (n + 1) ≡ nat_lt (place_of k.blocks d) n = elim (cases_lt (place_of k.blocks d) n) [
          | inl u ↦ lt-ltb (place_of k.blocks d) (n + 1) (omega (arith, u)) ∙ sym (lt-ltb (place_of k.blocks d) n u)
          | inr u ↦ le-ltb (place_of k.blocks d) (n + 1) (omega (arith, u, h)) ∙ sym (le-ltb (place_of k.blocks d) n u)
        ] in
        ap (λ z. is_moved block to d && z) same

    T-same : (i : ℕ) → i < length k.cuts → ((e : ℕ) → is_member e (edges_around k (cut i)) ≡ true → block_with k e ≡ slice_index k.blocks n → is_moved block to (block_with k e) ≡ false) → T (n + 1) i ≡ T n i
    T-same i h f = any-same (λ e. counts (n + 1) (block_with k e)) (λ e. counts n (block_with k e)) (edges_around k (cut i)) (λ e t. elim (cases_eq (place_of k.blocks (block_with k e)) n) [
      | inl u ↦ (let z : is_moved block to (block_with k e) ≡ false = f e t (at-place (block_with k e) (block-around i e t) u) in
          ap (λ y. y && nat_lt (place_of k.blocks (block_with k e)) (n + 1)) z ∙ sym (ap (λ y. y && nat_lt (place_of k.blocks (block_with k e)) n) z))
      | inr u ↦ counts-other (block_with k e) u
    ])

    -- the block is not moved, or does not have the vertex
    T-still : (i : ℕ) → i < length k.cuts → is_moved block to (slice_index k.blocks n) ≡ false → T (n + 1) i ≡ T n i
    T-still i h f = T-same i h (λ e t u. ap (is_moved block to) u ∙ f)

    T-apart : (i : ℕ) → i < length k.cuts → is_member (cut i) (block (slice_index k.blocks n)).part.vertices ≡ false → T (n + 1) i ≡ T n i
    T-apart i h f = T-same i h (λ e t u. absurd (both_ways (is_member (cut i) (block (slice_index k.blocks n)).part.vertices) f
        (subst (λ z. is_member (cut i) (block z).part.vertices ≡ true) u (made.has_vertex (cut i) e (cut-vertex i h) t))))

    -- it has the vertex and is moved
    T-moved : (i : ℕ) → i < length k.cuts → is_member (cut i) (block (slice_index k.blocks n)).part.vertices ≡ true → is_moved block to (slice_index k.blocks n) ≡ true → T (n + 1) i ≡ true
    T-moved i h y moved =
        let w : HasEdge k (slice_index k.blocks n) (cut i) = edge-of k block is (slice_index k.blocks n) (cut i) (member-at k.blocks n 0 l) (cut-vertex i h) y in
        any-from (λ e. counts (n + 1) (block_with k e)) (edges_around k (cut i)) w.edge w.around
        (subst (λ z. counts (n + 1) z ≡ true) (sym w.of_block)
        (and_from (is_moved block to c) (nat_lt (place_of k.blocks c) (n + 1)) moved (lt-ltb (place_of k.blocks c) (n + 1) (omega (arith, place-rising k.blocks n made.blocks_rise l)))))

    -- the moves of the block
    abbrev moves : List theory.Move
    moves = theory.moves_between (block c).nodes (block c).rotation (p n l)

    moves-are : moves_of block to (slice_index k.blocks n) ≡ theory.moves_between (block (slice_index k.blocks n)).nodes (block (slice_index k.blocks n)).rotation (block_part k (block (slice_index k.blocks n)).part q)
    moves-are = ap (λ (z : BlockInPlane). theory.moves_between (block c).nodes (block c).rotation z.rotation)
        (cond-true (is_member c k.blocks) (with-rotation (block c) (block_part k (block c).part q)) (block c) (member-at k.blocks n 0 l))

    own : IsPlaneSystem (block (slice_index k.blocks n)).part.graph (block (slice_index k.blocks n)).rotation
    own = own-plane k block q is m c (member-at k.blocks n 0 l)

    tree : IsBlockTree (block (slice_index k.blocks n)).part.graph (block (slice_index k.blocks n)).nodes
    tree = is.blocks.trees c (subst (λ (z : Component). is_member c z.blocks ≡ true) is.component (member-at k.blocks n 0 l))

    led : theory.Lead (block (slice_index k.blocks n)).part.graph (block (slice_index k.blocks n)).nodes (IsPlaneSystem (block (slice_index k.blocks n)).part.graph) moves (block (slice_index k.blocks n)).rotation (p n l)
    led = lead (block c).part.graph (block c).nodes (block c).rotation (p n l) tree own (part-plane n l)

    -- without moves the block stays
    stays : (ms : List theory.Move) → Moves n l ms (block (slice_index k.blocks n)).rotation → nat_lt 0 (length ms) ≡ false → (block (slice_index k.blocks n)).rotation ≡ p n l
    stays [] e h = e
    stays (move ∷ ms) e h = absurd (both_ways (nat_lt 0 (length (move ∷ ms))) h (lt-ltb 0 (length (move ∷ ms)) (omega arith)))

    after-still : (ms : List theory.Move) (f : ℕ → List ℕ) → nat_lt 0 (length ms) ≡ false → after n l ms f ≡ f
    after-still [] f h = refl
    after-still (move ∷ ms) f h = absurd (both_ways (nat_lt 0 (length (move ∷ ms))) h (lt-ltb 0 (length (move ∷ ms)) (omega arith)))

    after-moved : (ms : List theory.Move) (f : ℕ → List ℕ) → nat_lt 0 (length ms) ≡ true → after n l ms f ≡ reset n l (p n l) f
    after-moved [] f h = absurd (true≢false (sym h))
    after-moved (move ∷ ms) f h = refl

    -- the blocks before and after
    first-stage : B n l (block (slice_index k.blocks n)).rotation ≡ D n
    first-stage = begins k block q made n l

    last-stage : B n l (p n l) ≡ D (n + 1)
    last-stage = ends k block q made n l

    -- the lists after the block
    next-list : (i : ℕ) → i < length k.cuts → after n l moves (L n) i ≡ L (n + 1) i
    next-list i h = elim (cases_Bool (is_moved block to c)) [
      | inr f ↦
          let none : nat_lt 0 (length moves) ≡ false = ap (λ (z : List theory.Move). nat_lt 0 (length z)) (sym moves-are) ∙ f in
          let same : D n ≡ D (n + 1) = sym first-stage ∙ (ap (B n l) (stays moves led none) ∙ last-stage) in
          ap (λ (z : ℕ → List ℕ). z i) (after-still moves (L n) none)
          ∙ ap₂ (λ (t : Bool) (z : ℕ → BlockInPlane). if t then first_around k z i else slice_index_or lists i []) (sym (T-still i h f)) same
      | inl y ↦
          let some : nat_lt 0 (length moves) ≡ true = ap (λ (z : List theory.Move). nat_lt 0 (length z)) (sym moves-are) ∙ y in
          ap (λ (z : ℕ → List ℕ). z i) (after-moved moves (L n) some)
          ∙ elim (cases_Bool (has n l i)) [
            | inl v ↦
                cond-true (has n l i) (first_around k (B n l (p n l)) i) (L n i) v
                ∙ (ap (λ (z : ℕ → BlockInPlane). first_around k z i) last-stage
                ∙ sym (cond-true (T (n + 1) i) (first_around k (D (n + 1)) i) (slice_index_or lists i []) (T-moved i h v y)))
            | inr v ↦
                cond-false (has n l i) (first_around k (B n l (p n l)) i) (L n i) v
                ∙ ap₂ (λ (t : Bool) (z : List ℕ). if t then z else slice_index_or lists i []) (sym (T-apart i h v))
                (ap (λ (z : ℕ → BlockInPlane). first_around k z i) (sym first-stage)
                ∙ (apart-first n l (block c).rotation (p n l) i own (part-plane n l) v
                ∙ ap (λ (z : ℕ → BlockInPlane). first_around k z i) last-stage))
          ]
    ]

  abbrev RightAt : ℕ → Type 0
  RightAt n = (i : ℕ) → i < length k.cuts → Contains (arrangements_around k (D n) (cut i)) (L n i)

  right-more : (n : ℕ) → n < length k.blocks → RightAt n → RightAt (n + 1)
  right-more n l h i c =
      let b : ℕ = slice_index k.blocks n in
      let start : Right n l (block b).rotation (L n) = subst (λ (z : ℕ → BlockInPlane). (i : ℕ) → i < length k.cuts → Contains (arrangements_around k z (cut i)) (L n i)) (sym (first-stage n l)) h in
      subst (λ (z : List ℕ). Contains (arrangements_around k (D (n + 1)) (cut i)) z) (next-list n l i c)
      (subst (λ (z : ℕ → BlockInPlane). Contains (arrangements_around k z (cut i)) (after n l (moves n l) (L n) i)) (last-stage n l)
      (after-right n l (moves n l) (block b).rotation (L n) (own n l) start (led n l) i c))

  right-at : (n : ℕ) → n ≤ length k.blocks → RightAt n
  right-at zero l = λ i h. subst (λ (z : ℕ → BlockInPlane). Contains (arrangements_around k z (cut i)) (L 0 i)) (sym (done-none k block q))
      (subst (λ (z : List ℕ). Contains (arrangements_around k block (cut i)) z) (sym (cond-false (T 0 i) (first_around k (D 0) i) (slice_index_or lists i []) (T-none i))) (are.each i h))
  right-at (suc n) l = subst RightAt (add-one n) (right-more n (omega (arith, l)) (right-at n (omega (arith, l))))

  -- the state after the first n blocks
  abbrev S : ℕ → WholeState
  S n = state (D n) (listed k (L n))

  block-lead : (n : ℕ) → n < length k.blocks → RightAt n → LeadThroughPlane k (map (move_block (slice_index k.blocks n)) (moves_of block to (slice_index k.blocks n))) (S n) (S (n + 1))
  block-lead n l h =
      let b : ℕ = slice_index k.blocks n in
      let start : Right n l (block b).rotation (L n) = subst (λ (z : ℕ → BlockInPlane). (i : ℕ) → i < length k.cuts → Contains (arrangements_around k z (cut i)) (L n i)) (sym (first-stage n l)) h in
      let lists-are : listed k (after n l (moves n l) (L n)) ≡ listed k (L (n + 1)) =
      listed-is k (L (n + 1)) (listed k (after n l (moves n l) (L n))) (listed-length k (after n l (moves n l) (L n))) (λ i c. listed-at k (after n l (moves n l) (L n)) i c ∙ next-list n l i c) in
      subst (λ (z : List theory.Move). LeadThroughPlane k (map (move_block b) z) (S n) (S (n + 1))) (sym (moves-are n l))
      (subst (λ (z : ℕ → BlockInPlane). LeadThroughPlane k (map (move_block b) (moves n l)) (state z (listed k (L n))) (S (n + 1))) (first-stage n l)
      (subst (λ (z : WholeState). LeadThroughPlane k (map (move_block b) (moves n l)) (state (B n l (block b).rotation) (listed k (L n))) z) (λ j. state (last-stage n l j) (lists-are j))
      (moves-lead n l (moves n l) (block b).rotation (L n) (own n l) start (led n l))))

  blocks-lead : (n : ℕ) → n ≤ length k.blocks → LeadThroughPlane k (moves_below k block to n) (state block lists) (S n)
  blocks-lead zero l =
      let lists-are : lists ≡ listed k (L 0) = listed-is k (L 0) lists are.one_each (λ i c. sym (cond-false (T 0 i) (first_around k (D 0) i) (slice_index_or lists i []) (T-none i))) in
      λ j. state (sym (done-none k block q) j) (lists-are j)
  blocks-lead (suc n) l =
      let h : n < length k.blocks = omega (arith, l) in
      lead-append k (moves_below k block to n) (map (move_block (slice_index k.blocks n)) (moves_of block to (slice_index k.blocks n))) (state block lists) (S n) (S (suc n))
      (blocks-lead n (omega (arith, l)))
      (subst (λ z. LeadThroughPlane k (map (move_block (slice_index k.blocks n)) (moves_of block to (slice_index k.blocks n))) (S n) (S z)) (add-one n) (block-lead n h (right-at n (omega (arith, l)))))

  -- the lists after the moves of all blocks
  pub last-list : (i : ℕ) → i < length k.cuts → L (length k.blocks) i ≡ list_then k to (is_moved block to) lists i
  last-list i h = ap₂ (λ (t : Bool) (z : ℕ → BlockInPlane). if t then first_around k z i else slice_index_or lists i [])
      (any-same (λ e. counts (length k.blocks) (block_with k e)) (λ e. is_moved block to (block_with k e)) (edges_around k (cut i)) (λ e t. all (block_with k e) (block-around i e t)))
      (done-all k block q)
    where
      all : (c : ℕ) → is_member c k.blocks ≡ true → counts (length k.blocks) c ≡ is_moved block to c
      all c y = ap (λ z. is_moved block to c && z) (lt-ltb (place_of k.blocks c) (length k.blocks) (place-below k.blocks c y)) ∙ and-true (is_moved block to c)
        where
          and-true : (x : Bool) → (x && true) ≡ x
          and-true true = refl
          and-true false = refl

  -- the moves of all blocks lead
  pub all-blocks_lead : LeadThroughPlane k (moves_below k block (blocks_to k block q) (length k.blocks)) (state block lists) (state (blocks_to k block q) (listed k (list_then k (blocks_to k block q) (is_moved block (blocks_to k block q)) lists)))
  all-blocks_lead =
      let lists-are : listed k (L (length k.blocks)) ≡ listed k (list_then k to (is_moved block to) lists) =
      listed-is k (list_then k to (is_moved block to) lists) (listed k (L (length k.blocks))) (listed-length k (L (length k.blocks))) (λ i c. listed-at k (L (length k.blocks)) i c ∙ last-list i c) in
      subst (λ (z : WholeState). LeadThroughPlane k (moves_below k block to (length k.blocks)) (state block lists) z) (λ j. state (done-all k block q j) (lists-are j)) (blocks-lead (length k.blocks) (omega arith))

  pub all-right : (i : ℕ) → i < length k.cuts → Contains (arrangements_around k (blocks_to k block q) (slice_index k.cuts i)) (list_then k (blocks_to k block q) (is_moved block (blocks_to k block q)) lists i)
  all-right i c =
      subst (λ (z : List ℕ). Contains (arrangements_around k to (cut i)) z) (last-list i c)
      (subst (λ (z : ℕ → BlockInPlane). Contains (arrangements_around k z (cut i)) (L (length k.blocks) i)) (done-all k block q) (right-at (length k.blocks) (omega arith) i c))
