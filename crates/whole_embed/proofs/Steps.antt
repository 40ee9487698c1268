-- A step through the list of a component: a cut vertex advances, or a block; what comes after that is first again.
use Rattle.std.proofs.Common.{◌≡◌, ℕ, ◌<◌, ◌⊎◌, inl, inr, true, List, [], length, slice_index, slice_index_or, Contains, sym, ap, ◌∙◌, subst, arith}
use Rattle.std.proofs.lemmas.Bool.{cases_order}
use Rattle.permutations.specs.Members.{is_member, place_of}
use Rattle.permutations.proofs.Arrangements.{member-at}
use Rattle.permutations.proofs.Places.{place-below, place-holds}
use Rattle.multigraph.specs.Part.{GraphPart, Rises}
use Rattle.choice_lists.specs.Order.{IsAt, Lists, is_before}
use Rattle.choice_lists.specs.Products.{IsFirst, IsLast}
use Rattle.choice_lists.proofs.Orders.{linear-before}
use Rattle.arrangements.specs.Arranged.{IsArrangement, first_arrangement}
use Rattle.arrangements.proofs.Laws.{arrangements_are_listed, first_is_first}
use Rattle.skeletons.specs.Choices.{Precedes}
use Rattle.whole_embed.specs.Component.{Component, BlockInPlane}
use Rattle.whole_embed.specs.Around.{outer_at, edges_around, block_with, block_order, arrangements_around}
use Rattle.whole_embed.specs.Whole.{AreArranged, block_part, IsWholeMember, WholePrecedes}
use Rattle.whole_embed.specs.Walk.{first_around, AreNextLists, AreLastLists}
use Rattle.whole_embed.proofs.Assembled.{IsAssembled}
use Rattle.whole_embed.proofs.Followers.{Succeeds, IsEnd}
use Rattle.whole_embed.proofs.Odometer.{SameParts, IsFirstPart, IsLastPart, IsFirstRound, IsLastRound, FollowsInBlock, FollowsRound, next-in_block, next-around, end-of_all}
use Rattle.whole_embed.proofs.Moved.{AreMoved, member-moved, member-back}
use Rattle.whole_embed.proofs.LedBlocks.{IsNextBlock, IsFirstBlock, IsLastBlock}
use Rattle.whole_embed.proofs.ListSteps.{next-between, first-before, last-after}
use Rattle.whole_embed.proofs.Told.{parts-tell, member-arranged}

-- q is the rotation system over these blocks with these lists around the cut vertices
pub record IsPresent (k : Component) (block : ℕ → BlockInPlane) (lists q : List (List ℕ)) : Type 0 where
  pub member : IsWholeMember k block q
  pub parts : (b : ℕ) → is_member b k.blocks ≡ true → block_part k (block b).part q ≡ (block b).rotation
  pub rounds : (i : ℕ) → i < length k.cuts → outer_at k.part q (slice_index k.cuts i) ≡ slice_index_or lists i []

-- the place of a member of an increasing list, and its order
pub place-less : (l : List ℕ) (u i : ℕ) → Rises l → is_member u l ≡ true → i < length l → u < slice_index l i → place_of l u < i
place-less l u i r m h k = elim (cases_order (place_of l u) i) [
  | inl e ↦ absurd (let a = place-holds l u m in let b : slice_index l (place_of l u) ≡ slice_index l i = ap (slice_index l) e in omega (arith, a, b, k))
  | inr (inl w) ↦ w
  | inr (inr w) ↦ absurd (let a = place-holds l u m in let b : slice_index l i < slice_index l (place_of l u) = r i (place_of l u) w (place-below l u m) in omega (arith, a, b, k))
]

pub place-more : (l : List ℕ) (u i : ℕ) → Rises l → is_member u l ≡ true → i < length l → slice_index l i < u → i < place_of l u
place-more l u i r m h k = elim (cases_order (place_of l u) i) [
  | inl e ↦ absurd (let a = place-holds l u m in let b : slice_index l (place_of l u) ≡ slice_index l i = ap (slice_index l) e in omega (arith, a, b, k))
  | inr (inr w) ↦ w
  | inr (inl w) ↦ absurd (let a = place-holds l u m in let b : slice_index l (place_of l u) < slice_index l i = r (place_of l u) i w h in omega (arith, a, b, k))
]

module _ (k : Component) where
  module _ (block : ℕ → BlockInPlane) (made : IsAssembled k block) where
    abbrev M : List (List ℕ) → Type 0
    M = IsWholeMember k block

    abbrev round : List (List ℕ) → ℕ → List ℕ
    round q v = outer_at k.part q v

    told : (q r : List (List ℕ)) → M q → M r → SameParts k block q r → ((v : ℕ) → is_member v k.cuts ≡ true → round q v ≡ round r v) → q ≡ r
    told q r m n same rounds = parts-tell k block made q r m.plane.system n.plane.system same rounds

    arranged-lists : (v : ℕ) → is_member v k.cuts ≡ true → Lists is_before (IsArrangement (block_with k) (block_order block v) (edges_around k v)) (arrangements_around k block v)
    arranged-lists v c = arrangements_are_listed (block_with k) (block_order block v) (edges_around k v) (made.orders v (made.cuts_in v c))

    first-listed : (v : ℕ) → is_member v k.cuts ≡ true → IsFirst (arrangements_around k block v) (first_arrangement (block_with k) (block_order block v) (edges_around k v))
    first-listed v c = first_is_first (block_with k) (block_order block v) (edges_around k v) (made.orders v (made.cuts_in v c))

    -- a member with the parts of the blocks has one of the arrangements
    has-arrangement : (s : List (List ℕ)) → M s → ((b : ℕ) → is_member b k.blocks ≡ true → block_part k (block b).part s ≡ (block b).rotation) → (v : ℕ) → is_member v k.cuts ≡ true → Contains (arrangements_around k block v) (round s v)
    has-arrangement s m same v c = ((arranged-lists v c).exactly (round s v)).1 (member-arranged k block made s m same v (made.cuts_in v c))

    -- the list of a cut vertex, by its place
    round-list : (lists q : List (List ℕ)) → IsPresent k block lists q → (v : ℕ) → is_member v k.cuts ≡ true → round q v ≡ slice_index_or lists (place_of k.cuts v) []
    round-list lists q p v c = subst (λ z. round q z ≡ slice_index_or lists (place_of k.cuts v) []) (place-holds k.cuts v c) (p.rounds (place_of k.cuts v) (place-below k.cuts v c))

    -- a last list, and a first one
    last-round : (lists q : List (List ℕ)) → IsPresent k block lists q → (v : ℕ) → is_member v k.cuts ≡ true → IsLast (arrangements_around k block v) (slice_index_or lists (place_of k.cuts v) [])
        → IsLastRound k block M told q v
    last-round lists q p v c last s m same h =
        last-after is_before linear-before.apart (arrangements_around k block v) (arranged-lists v c).rises (slice_index_or lists (place_of k.cuts v) []) last (round s v)
        (has-arrangement s m (λ b among. sym (same b among) ∙ p.parts b among) v c)
        (subst (λ (z : List ℕ). is_before z (round s v) ≡ true) (round-list lists q p v c) h)

    first-round : (lists q : List (List ℕ)) → IsPresent k block lists q → (v : ℕ) → is_member v k.cuts ≡ true → slice_index_or lists (place_of k.cuts v) [] ≡ first_arrangement (block_with k) (block_order block v) (edges_around k v)
        → (s : List (List ℕ)) → M s → SameParts k block q s → (round q v ≡ round s v) ⊎ (is_before (round q v) (round s v) ≡ true)
    first-round lists q p v c first s m same =
        subst (λ (z : List ℕ). (z ≡ round s v) ⊎ (is_before z (round s v) ≡ true)) (sym (round-list lists q p v c ∙ first))
        (first-before is_before linear-before.apart (arrangements_around k block v) (arranged-lists v c).rises (first_arrangement (block_with k) (block_order block v) (edges_around k v)) (first-listed v c) (round s v)
        (has-arrangement s m (λ b among. sym (same b among) ∙ p.parts b among) v c))

    -- a cut vertex advances
    pub next-lists : (old new q r : List (List ℕ)) → AreArranged k block old → IsPresent k block old q → IsPresent k block new r → AreNextLists k block old new → Succeeds (WholePrecedes k block) M q r
    next-lists old new q r arranged pq pr n =
        next-around k block M told q r v pr.member cut (λ b m. pq.parts b m ∙ sym (pr.parts b m)) earlier follows later
      where
        v : ℕ
        v = slice_index k.cuts n.place

        cut : is_member v k.cuts ≡ true
        cut = member-at k.cuts n.place 0 n.within

        earlier : (u : ℕ) → is_member u k.cuts ≡ true → u < v → round q u ≡ round r u
        earlier u m h = round-list old q pq u m ∙ (sym (n.before (place_of k.cuts u) (place-less k.cuts u n.place made.cuts_rise m n.within h)) ∙ sym (round-list new r pr u m))

        follows : FollowsRound k block M told q r v
        follows =
            let c = arranged.each n.place n.within in
            let at : IsAt (arrangements_around k block v) c.0 (slice_index_or old n.place []) = (c.1, c.2) in
            let w = next-between is_before linear-before.apart (arrangements_around k block v) (arranged-lists v cut).rises c.0 (slice_index_or old n.place []) (slice_index_or new n.place []) at (n.next c.0 at) in
            record {
              after = subst (λ (z : List ℕ). is_before z (round r v) ≡ true) (sym (pq.rounds n.place n.within)) (subst (λ (z : List ℕ). is_before (slice_index_or old n.place []) z ≡ true) (sym (pr.rounds n.place n.within)) w.0);
              none_between = λ s m same h.
                  subst (λ (z : List ℕ). (z ≡ round s v) ⊎ (is_before z (round s v) ≡ true)) (sym (pr.rounds n.place n.within))
                  (w.1 (round s v) (has-arrangement s m (λ b among. sym (same b among) ∙ pq.parts b among) v cut) (subst (λ (z : List ℕ). is_before z (round s v) ≡ true) (pq.rounds n.place n.within) h));
            }

        later : (u : ℕ) → is_member u k.cuts ≡ true → v < u → IsLastRound k block M told q u × IsFirstRound k block M told r u
        later u m h =
            let p : n.place < place_of k.cuts u = place-more k.cuts u n.place made.cuts_rise m n.within h in
            let b : place_of k.cuts u < length k.cuts = place-below k.cuts u m in
            let e : slice_index k.cuts (place_of k.cuts u) ≡ u = place-holds k.cuts u m in (
              last-round old q pq u m (subst (λ z. IsLast (arrangements_around k block z) (slice_index_or old (place_of k.cuts u) [])) e (n.last (place_of k.cuts u) p b)),
              first-round new r pr u m (subst (λ z. slice_index_or new (place_of k.cuts u) [] ≡ first_arrangement (block_with k) (block_order block z) (edges_around k z)) e (n.first (place_of k.cuts u) p b)),
            )

    -- all cut vertices and all blocks are at their last
    pub last-of_all : (lists q : List (List ℕ)) → IsPresent k block lists q → AreLastLists k block lists → ((b : ℕ) → is_member b k.blocks ≡ true → IsLastBlock (block b)) → IsEnd (WholePrecedes k block) M q
    last-of_all lists q p last blocks = end-of_all k block M told q parts rounds
      where
        parts : (b : ℕ) → is_member b k.blocks ≡ true → IsLastPart k block M told q b
        parts b m s h w = blocks b m (block_part k (block b).part s) (h.kept b m) (subst (λ (z : List (List ℕ)). Precedes (block b).nodes z (block_part k (block b).part s)) (p.parts b m) w)

        rounds : (v : ℕ) → is_member v k.cuts ≡ true → IsLastRound k block M told q v
        rounds v m = last-round lists q p v m (subst (λ z. IsLast (arrangements_around k block z) (slice_index_or lists (place_of k.cuts v) [])) (place-holds k.cuts v m) (last (place_of k.cuts v) (place-below k.cuts v m)))

  -- a block advances
  module _ (old new : ℕ → BlockInPlane) (made : IsAssembled k old) (made_new : IsAssembled k new) (moved : AreMoved k old new) where
    -- the part in a block after the step
    part-new : (lists r : List (List ℕ)) → IsPresent k new lists r → (b : ℕ) → is_member b k.blocks ≡ true → block_part k (old b).part r ≡ (new b).rotation
    part-new lists r p b m = subst (λ (z : GraphPart). block_part k z r ≡ (new b).rotation) (moved b m).part (p.parts b m)

    pub next-blocks : (lists lists_new q r : List (List ℕ)) → IsPresent k old lists q → IsPresent k new lists_new r → (place : ℕ) → place < length k.blocks
        → IsNextBlock (old (slice_index k.blocks place)) (new (slice_index k.blocks place))
        → ((j : ℕ) → j < place → (new (slice_index k.blocks j)).rotation ≡ (old (slice_index k.blocks j)).rotation)
        → ((j : ℕ) → place < j → j < length k.blocks → IsLastBlock (old (slice_index k.blocks j)) × IsFirstBlock (old (slice_index k.blocks j)) (new (slice_index k.blocks j)))
        → AreLastLists k old lists → ((j : ℕ) → j < length k.cuts → slice_index_or lists_new j [] ≡ first_around k new j)
        → Succeeds (WholePrecedes k old) (IsWholeMember k old) q r
    next-blocks lists lists_new q r pq pr place within next earlier later last first =
        next-in_block k old (IsWholeMember k old) (told old made) q r b (member-back k old new moved r pr.member) among same follows others rounds
      where
        b : ℕ
        b = slice_index k.blocks place

        among : is_member b k.blocks ≡ true
        among = member-at k.blocks place 0 within

        same : (a : ℕ) → is_member a k.blocks ≡ true → a < b → block_part k (old a).part q ≡ block_part k (old a).part r
        same a m h =
            let e = earlier (place_of k.blocks a) (place-less k.blocks a place made.blocks_rise m within h) in
            pq.parts a m ∙ (sym (subst (λ z. (new z).rotation ≡ (old z).rotation) (place-holds k.blocks a m) e) ∙ sym (part-new lists_new r pr a m))

        follows : FollowsInBlock k old (IsWholeMember k old) (told old made) q r b
        follows = record {
          after = subst (λ (z : List (List ℕ)). Precedes (old b).nodes z (block_part k (old b).part r)) (sym (pq.parts b among)) (subst (λ (z : List (List ℕ)). Precedes (old b).nodes (old b).rotation z) (sym (part-new lists_new r pr b among)) next.after);
          none_between = λ s m h.
              subst (λ (z : List (List ℕ)). (z ≡ block_part k (old b).part s) ⊎ Precedes (old b).nodes z (block_part k (old b).part s)) (sym (part-new lists_new r pr b among))
              (next.between (block_part k (old b).part s) (m.kept b among) (subst (λ (z : List (List ℕ)). Precedes (old b).nodes z (block_part k (old b).part s)) (pq.parts b among) h));
        }

        others : (a : ℕ) → is_member a k.blocks ≡ true → b < a → IsLastPart k old (IsWholeMember k old) (told old made) q a × IsFirstPart k old (IsWholeMember k old) (told old made) r a
        others a m h =
            let w = later (place_of k.blocks a) (place-more k.blocks a place made.blocks_rise m within h) (place-below k.blocks a m) in
            let x : IsLastBlock (old a) × IsFirstBlock (old a) (new a) = subst (λ z. IsLastBlock (old z) × IsFirstBlock (old z) (new z)) (place-holds k.blocks a m) w in (
              λ s n g. x.0 (block_part k (old a).part s) (n.kept a m) (subst (λ (z : List (List ℕ)). Precedes (old a).nodes z (block_part k (old a).part s)) (pq.parts a m) g),
              λ s n. subst (λ (z : List (List ℕ)). (z ≡ block_part k (old a).part s) ⊎ Precedes (old a).nodes z (block_part k (old a).part s)) (sym (part-new lists_new r pr a m)) (x.1.first (block_part k (old a).part s) (n.kept a m)),
            )

        rounds : (v : ℕ) → is_member v k.cuts ≡ true → IsLastRound k old (IsWholeMember k old) (told old made) q v × IsFirstRound k old (IsWholeMember k old) (told old made) r v
        rounds v c = (
          last-round old made lists q pq v c (subst (λ z. IsLast (arrangements_around k old z) (slice_index_or lists (place_of k.cuts v) [])) (place-holds k.cuts v c) (last (place_of k.cuts v) (place-below k.cuts v c))),
          λ s m parts. first-round new made_new lists_new r pr v c
              (subst (λ z. slice_index_or lists_new (place_of k.cuts v) [] ≡ first_arrangement (block_with k) (block_order new z) (edges_around k z)) (place-holds k.cuts v c) (first (place_of k.cuts v) (place-below k.cuts v c)))
              s (member-moved k old new moved s m) (λ a n. subst (λ (z : GraphPart). block_part k z r ≡ block_part k z s) (sym (moved a n).part) (parts a n)),
        )
