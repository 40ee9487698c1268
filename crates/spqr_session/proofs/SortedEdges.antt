-- The lists of a start, given to the blocks of their edges: one edge more, one vertex more, and what the blocks have at the end.
use Rattle.std.proofs.Common.{◌≡◌, ◌≢◌, ℕ, ◌+◌, ◌-◌, ◌<◌, ◌==◌, Bool, true, false, cond, List, [], ◌∷◌, ◌++◌, length, map, filter, get_or, set, take, slice_index, slice_index_or, All, inl, inr, refl, sym, ap, ◌∙◌, subst, arith, append-nil}
use Rattle.std.proofs.lemmas.Bool.{cases_Bool, cases_eq, both_ways, true≢false, eq-eqb, ne_eqb, eqb-true, false_from_ne_true}
use Rattle.std.proofs.lemmas.List.{get_or-set_same, get_or-set_other, length-set, length-map, get_or-map, map-append, take_more}
use Rattle.std.proofs.lemmas.List.Elements.{filter-append, All-from_get_or}
use Rattle.permutations.specs.Members.{is_member}
use Rattle.permutations.proofs.Members.{member-cases, member-append_right, member-append_cases, no_member-append_left, member-head}
use Rattle.permutations.proofs.Arrangements.{member-at}
use Rattle.permutations.proofs.Relation.{same-tests}
use Rattle.multigraph.specs.Graph.{Multigraph, edge_count, numbers_below}
use Rattle.multigraph.proofs.Below.{filter_below-yes, filter_below-no, filter_below-at}
use Rattle.blocks.specs.Blocks.{block_at, AreBlocks}
use Rattle.rotations.specs.Entries.{entry, IsAbove}
use Rattle.spqr_session.specs.Sorting.{IsBlockNoted, HasBlocks, IsKnown, of_block, AreWaiting, has_some, entry_of, AreMoved, AreEntered, gathered, AreGathered}

-- ---- the block of each edge

-- one edge more
pub note-more : (done : List ℕ) (x b : ℕ) (old new : List ℕ) → IsBlockNoted done b old new → x < length old → IsBlockNoted (done ++ x ∷ []) b old (set new x b)
note-more done x b old new h l = record {
  long = length-set new x b ∙ h.long;
  noted = λ e m. elim (cases_eq e x) [
    | inl q ↦ subst (λ (z : ℕ). get_or (set new x b) z 0 ≡ b) (sym q) (get_or-set_same new x b 0 (omega (arith, l, h.long)))
    | inr n ↦ get_or-set_other new x e b 0 n ∙ h.noted e (before e n m)
  ];
  others = λ e m. get_or-set_other new x e b 0 (apart e m) ∙ h.others e (no_member-append_left e done (x ∷ []) m);
}
  where
    before : (e : ℕ) → e ≢ x → is_member e (done ++ x ∷ []) ≡ true → is_member e done ≡ true
    before e n m = elim (member-append_cases e done (x ∷ []) m) [
      | inl d ↦ d
      | inr d ↦ elim (member-cases e x [] d) [
        | inl q ↦ absurd (n (sym q))
        | inr q ↦ absurd (true≢false (sym q))
      ]
    ]

    apart : (e : ℕ) → is_member e (done ++ x ∷ []) ≡ false → e ≢ x
    apart e m q = both_ways (is_member e (done ++ x ∷ [])) m (member-append_right e done (x ∷ []) (subst (λ (z : ℕ). is_member e (z ∷ []) ≡ true) q (member-head e [])))

-- the edge at a place of the list
pub note-next : (edges : List ℕ) (i b : ℕ) (old new : List ℕ) → i < length edges → IsBlockNoted (take i edges) b old new → get_or edges i 0 < length old → IsBlockNoted (take (i + 1) edges) b old (set new (get_or edges i 0) b)
note-next edges i b old new l h m = subst (λ (d : List ℕ). IsBlockNoted d b old (set new (get_or edges i 0) b)) (sym (take_more edges i 0 l)) (note-more (take i edges) (get_or edges i 0) b old new h m)

module _ (g : Multigraph) (blocks : List (List ℕ)) (are : AreBlocks g blocks) where
  -- an edge is in one block only
  pub block-one : (b c e : ℕ) → b < length blocks → c < length blocks → is_member e (block_at blocks b) ≡ true → is_member e (block_at blocks c) ≡ true → b ≡ c
  block-one b c e lb lc mb mc = (are.same b c e e lb lc mb mc).1 ((are.same b b e e lb lb mb mb).0 refl)

  -- the edges of a block have places in a table of all edges
  pub block-within : (n b : ℕ) (table : List ℕ) → HasBlocks (edge_count g) blocks n table → b < length blocks → All (λ e. e < length table) (block_at blocks b)
  block-within n b table h l = All-from_get_or (λ e. e < length table) (block_at blocks b) 0 (λ i m. omega (arith, are.edges b (slice_index (block_at blocks b) i) l (member-at (block_at blocks b) i 0 m), h.long))

  -- one block more
  pub blocks-more : (n : ℕ) (old new : List ℕ) → n < length blocks → HasBlocks (edge_count g) blocks n old → IsBlockNoted (block_at blocks n) n old new → HasBlocks (edge_count g) blocks (n + 1) new
  blocks-more n old new l h noted = record {
    long = noted.long ∙ h.long;
    each = λ b e m k. elim (cases_eq b n) [
      | inl q ↦ noted.noted e (subst (λ (c : ℕ). is_member e (block_at blocks c) ≡ true) q k) ∙ sym q
      | inr apart ↦ noted.others e (false_from_ne_true (is_member e (block_at blocks n)) (λ t. apart (block-one b n e (omega (arith, m, l)) l k t))) ∙ h.each b e (omega (arith, m, apart)) k
    ];
  }

  module _ (table : List ℕ) (h : HasBlocks (edge_count g) blocks (length blocks) table) where
    -- an edge is of the block that the table has for it, and of no other
    pub table-tells : (b e : ℕ) → b < length blocks → e < edge_count g → (slice_index table e == b) ≡ is_member e (block_at blocks b)
    table-tells b e l m = same-tests (slice_index table e == b) (is_member e (block_at blocks b)) to (λ t. eq-eqb (slice_index table e) b (h.each b e l t))
      where
        to : (slice_index table e == b) ≡ true → is_member e (block_at blocks b) ≡ true
        to t =
            let w = are.each e m in
            subst (λ (c : ℕ). is_member e (block_at blocks c) ≡ true) (sym (h.each w.0 e w.1 w.2) ∙ eqb-true (slice_index table e) b t) w.2

    -- each edge has a block in it
    pub edge-known : (e : ℕ) → e < edge_count g → IsKnown table (length blocks) e
    edge-known e m =
        let w = are.each e m in
        let is : slice_index table e ≡ w.0 = h.each w.0 e w.1 w.2 in
        (omega (arith, m, h.long), omega (arith, is, w.1))

-- ---- the edges of one list

-- one edge more, of this block
of_block-yes : (table : List ℕ) (b : ℕ) (edges : List ℕ) (x : ℕ) → (slice_index table x == b) ≡ true → of_block table b (edges ++ x ∷ []) ≡ of_block table b edges ++ x ∷ []
of_block-yes table b edges x t = filter-append (λ e. slice_index table e == b) edges (x ∷ []) ∙ ap (λ (c : Bool). of_block table b edges ++ cond c (x ∷ []) []) t

-- or of another
of_block-no : (table : List ℕ) (b : ℕ) (edges : List ℕ) (x : ℕ) → (slice_index table x == b) ≡ false → of_block table b (edges ++ x ∷ []) ≡ of_block table b edges
of_block-no table b edges x f = filter-append (λ e. slice_index table e == b) edges (x ∷ []) ∙ ap (λ (c : Bool). of_block table b edges ++ cond c (x ∷ []) []) f ∙ append-nil (of_block table b edges)

-- one edge more waits
waits-more : (table edges : List ℕ) (total x : ℕ) (waiting : List (List ℕ)) → AreWaiting table edges total waiting → slice_index table x < total → AreWaiting table (edges ++ x ∷ []) total (set waiting (slice_index table x) (get_or waiting (slice_index table x) [] ++ x ∷ []))
waits-more table edges total x waiting h l =
    let y = slice_index table x in record {
      counted = length-set waiting y (get_or waiting y [] ++ x ∷ []) ∙ h.counted;
      each = λ b m. elim (cases_eq b y) [
        | inl q ↦ subst (λ (z : ℕ). get_or (set waiting y (get_or waiting y [] ++ x ∷ [])) z [] ≡ of_block table z (edges ++ x ∷ [])) (sym q)
            (get_or-set_same waiting y (get_or waiting y [] ++ x ∷ []) [] (omega (arith, l, h.counted)) ∙ ap (λ (o : List ℕ). o ++ x ∷ []) (h.each y l) ∙ sym (of_block-yes table y edges x (eq-eqb y y refl)))
        | inr n ↦
            get_or-set_other waiting y b (get_or waiting y [] ++ x ∷ []) [] n ∙ h.each b m
            ∙ sym (of_block-no table b edges x (ne_eqb y b (λ q. n (sym q))))
      ];
    }

pub waits-next : (table edges : List ℕ) (total i : ℕ) (waiting : List (List ℕ)) → i < length edges → AreWaiting table (take i edges) total waiting → slice_index table (get_or edges i 0) < total → AreWaiting table (take (i + 1) edges) total (set waiting (slice_index table (get_or edges i 0)) (get_or waiting (slice_index table (get_or edges i 0)) [] ++ get_or edges i 0 ∷ []))
waits-next table edges total i waiting l h m =
    subst (λ (d : List ℕ). AreWaiting table d total (set waiting (slice_index table (get_or edges i 0)) (get_or waiting (slice_index table (get_or edges i 0)) [] ++ get_or edges i 0 ∷ []))) (sym (take_more edges i 0 l))
    (waits-more table (take i edges) total (get_or edges i 0) waiting h m)

-- whether a list has a member
some-push : (l : List ℕ) (x : ℕ) → has_some (l ++ x ∷ []) ≡ true
some-push [] x = refl
some-push (y ∷ l) x = refl

pub some-member : (l : List ℕ) (x : ℕ) → is_member x l ≡ true → has_some l ≡ true
some-member [] x m = absurd (true≢false (sym m))
some-member (y ∷ l) x m = refl

pub member-some : (l : List ℕ) → has_some l ≡ true → (x : ℕ) × (is_member x l ≡ true)
member-some [] h = absurd (true≢false (sym h))
member-some (y ∷ l) h = (y, member-head y l)

-- the entry of v and some edges
pub entry-some : (v : ℕ) (l : List ℕ) → has_some l ≡ true → entry_of v l ≡ (v, l) ∷ []
entry-some v l h = ap (λ (c : Bool). cond c ((v, l) ∷ []) []) h

pub entry-none : (v : ℕ) (l : List ℕ) → has_some l ≡ false → entry_of v l ≡ []
entry-none v l h = ap (λ (c : Bool). cond c ((v, l) ∷ []) []) h

module _ (table edges : List ℕ) (v total : ℕ) (before : List (List (ℕ × List ℕ))) where
  -- one edge more: its block's edges are moved, if they were not before
  pub moved-more : (done : List ℕ) (x : ℕ) (lists : List (List (ℕ × List ℕ))) (waiting : List (List ℕ)) → AreMoved table edges done v total before lists waiting → slice_index table x < total
      → AreMoved table edges (done ++ x ∷ []) v total before
      (set lists (slice_index table x) (slice_index_or lists (slice_index table x) [] ++ entry_of v (slice_index_or waiting (slice_index table x) [])))
      (set waiting (slice_index table x) [])
  moved-more done x lists waiting h l = record {
    waiting_each = length-set waiting y [] ∙ h.waiting_each;
    lists_each = length-set lists y added ∙ h.lists_each;
    moved = λ b m t. elim (cases_eq b y) [
      | inl q ↦ subst (λ (z : ℕ). (slice_index_or (set waiting y []) z [] ≡ []) × (slice_index_or (set lists y added) z [] ≡ slice_index_or before z [] ++ entry_of v (of_block table z edges))) (sym q)
          (get_or-set_same waiting y [] [] (omega (arith, l, h.waiting_each)), get_or-set_same lists y added [] (omega (arith, l, h.lists_each)) ∙ all)
      | inr n ↦ (let old = h.moved b m (ap has_some (sym (other b n)) ∙ t) in (get_or-set_other waiting y b [] [] n ∙ old.0, get_or-set_other lists y b added [] n ∙ old.1))
    ];
    left = λ b m f. elim (cases_eq b y) [
      | inl q ↦ absurd (both_ways (has_some (of_block table b (done ++ x ∷ []))) f (subst (λ (z : ℕ). has_some (of_block table z (done ++ x ∷ [])) ≡ true) (sym q) (ap has_some (of_block-yes table y done x (eq-eqb y y refl)) ∙ some-push (of_block table y done) x)))
      | inr n ↦ (let old = h.left b m (ap has_some (sym (other b n)) ∙ f) in (get_or-set_other waiting y b [] [] n ∙ old.0, get_or-set_other lists y b added [] n ∙ old.1))
    ];
  }
    where
      y : ℕ
      y = slice_index table x

      added : List (ℕ × List ℕ)
      added = slice_index_or lists y [] ++ entry_of v (slice_index_or waiting y [])

      other : (b : ℕ) → b ≢ y → of_block table b (done ++ x ∷ []) ≡ of_block table b done
      other b n = of_block-no table b done x (ne_eqb y b (λ q. n (sym q)))

      all : added ≡ slice_index_or before y [] ++ entry_of v (of_block table y edges)
      all = elim (cases_Bool (has_some (of_block table y done))) [
        | inl t ↦ (let old = h.moved y l t in ap (λ (w : List ℕ). slice_index_or lists y [] ++ entry_of v w) old.0 ∙ append-nil (slice_index_or lists y []) ∙ old.1)
        | inr f ↦ (let old = h.left y l f in ap (λ (w : List ℕ). slice_index_or lists y [] ++ entry_of v w) old.0 ∙ ap (λ (o : List (ℕ × List ℕ)). o ++ entry_of v (of_block table y edges)) old.1)
      ]

  pub moved-next : (i : ℕ) (lists : List (List (ℕ × List ℕ))) (waiting : List (List ℕ)) → i < length edges → AreMoved table edges (take i edges) v total before lists waiting → slice_index table (get_or edges i 0) < total
      → AreMoved table edges (take (i + 1) edges) v total before
      (set lists (slice_index table (get_or edges i 0)) (slice_index_or lists (slice_index table (get_or edges i 0)) [] ++ entry_of v (slice_index_or waiting (slice_index table (get_or edges i 0)) [])))
      (set waiting (slice_index table (get_or edges i 0)) [])
  moved-next i lists waiting l h m =
      let x = get_or edges i 0 in
      let y = slice_index table x in
      subst (λ (d : List ℕ). AreMoved table edges d v total before (set lists y (slice_index_or lists y [] ++ entry_of v (slice_index_or waiting y []))) (set waiting y [])) (sym (take_more edges i 0 l))
      (moved-more (take i edges) x lists waiting h m)

  module _ (lists : List (List (ℕ × List ℕ))) (waiting : List (List ℕ)) (h : AreMoved table edges edges v total before lists waiting) where
    -- and each block has its entry
    pub all-entered : AreEntered table edges v total before lists
    all-entered = record {
      counted = h.lists_each;
      each = λ b l. elim (cases_Bool (has_some (of_block table b edges))) [
        | inl t ↦ (h.moved b l t).1
        | inr f ↦ (h.left b l f).1 ∙ sym (ap (λ (e : List (ℕ × List ℕ)). slice_index_or before b [] ++ e) (entry-none v (of_block table b edges) f) ∙ append-nil (slice_index_or before b []))
      ];
    }

-- ---- the lists of all vertices

module _ (table : List ℕ) (starts : List (List ℕ)) where
  -- whether vertex v has edges of block b in its list
  abbrev meets : ℕ → ℕ → Bool
  meets b v = has_some (of_block table b (slice_index_or starts v []))

  abbrev entry_for : ℕ → ℕ → ℕ × List ℕ
  entry_for b v = (v, of_block table b (slice_index_or starts v []))

  -- one vertex more
  gathered-more : (b n : ℕ) → gathered table starts b (n + 1) ≡ gathered table starts b n ++ entry_of n (of_block table b (slice_index_or starts n []))
  gathered-more b n = elim (cases_Bool (meets b n)) [
    | inl t ↦ ap (map (entry_for b)) (filter_below-yes (meets b) n t) ∙ map-append (entry_for b) (filter (meets b) (numbers_below n)) (n ∷ [])
        ∙ ap (λ (e : List (ℕ × List ℕ)). gathered table starts b n ++ e) (sym (entry-some n (of_block table b (slice_index_or starts n [])) t))
    | inr f ↦ ap (map (entry_for b)) (filter_below-no (meets b) n f)
        ∙ sym (ap (λ (e : List (ℕ × List ℕ)). gathered table starts b n ++ e) (entry-none n (of_block table b (slice_index_or starts n [])) f) ∙ append-nil (gathered table starts b n))
  ]

  -- the vertices so far are smaller than the next
  pub gathered-above : (b n : ℕ) → IsAbove (gathered table starts b n) n
  gathered-above b n l =
      let vertices = filter (meets b) (numbers_below n) in
      let long : length (gathered table starts b n) ≡ length vertices = length-map vertices (entry_for b) in
      let last : length (gathered table starts b n) - 1 < length vertices = omega (arith, l, long) in
      let is : (entry (gathered table starts b n) (length (gathered table starts b n) - 1)).0 ≡ get_or vertices (length (gathered table starts b n) - 1) 0 =
      ap (λ (x : ℕ × List ℕ). x.0) (get_or-map (entry_for b) vertices (length (gathered table starts b n) - 1) 0 (0, []) last) in
      omega (arith, is, (filter_below-at (meets b) n (length (gathered table starts b n) - 1) 0 last).0)

  -- one more
  pub gathered-next : (n total : ℕ) (before lists : List (List (ℕ × List ℕ))) → AreGathered table starts n total before → AreEntered table (slice_index_or starts n []) n total before lists → AreGathered table starts (n + 1) total lists
  gathered-next n total before lists h more = record {
    counted = more.counted;
    each = λ b l. more.each b l ∙ ap (λ (e : List (ℕ × List ℕ)). e ++ entry_of n (of_block table b (slice_index_or starts n []))) (h.each b l) ∙ sym (gathered-more b n);
  }
