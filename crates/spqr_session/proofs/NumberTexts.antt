-- The texts of `gml`: numbers appended one after another, those of a block at all its vertices, and block after block.
use Rattle.std.proofs.Common.{◌≡◌, ◌≢◌, ℕ, zero, suc, ◌+◌, ◌<◌, ◌≤◌, ◌/◌, ◌%◌, ◌==◌, true, false, List, [], ◌∷◌, ◌++◌, length, map, get_or, set, slice_index, slice_index_or, codes, decimal, Option, None, Some, inl, inr, refl, sym, ap, ◌∙◌, subst, arith, append_assoc, append-nil, Result, Ok, Err, OnOk, All, add-one, nat_lt, if◌then◌else◌}
use Rattle.std.specs.Global.{Vec}
use Rattle.std.specs.Fmt.{digits, digits_onto, digit_glyph}
use Rattle.std.proofs.lemmas.Bool.{cases_Bool, cases_eq, cases_lt, cond-true, cond-false, lt-ltb, le-ltb}
use Rattle.std.proofs.lemmas.List.{get_or-set_same, get_or-set_other, length-set, length-map, get_or-map, get_or_past, ext_get_or, map-set}
use Rattle.std.proofs.lemmas.List.Elements.{All-from_get_or, Contains-get_or}
use Rattle.permutations.specs.Members.{is_member, place_of}
use Rattle.permutations.proofs.Places.{place-at}
use Rattle.multigraph.specs.Graph.{Multigraph, incident_edges, numbers_below, IsGraph}
use Rattle.multigraph.specs.Part.{IsNumbered}
use Rattle.multigraph.proofs.Below.{length-numbers_below, get_or-numbers_below}
use Rattle.multigraph.proofs.OtherEnd.{end-in}
use Rattle.permutations.proofs.Members.{member-head}
use Rattle.rotations.proofs.Membership.{member-edge, member-end}
use Rattle.decimals.specs.Text.{spaced_numbers}
use Rattle.gml_graph.specs.Marked.{numbers_text}
use Rattle.spqr_session.specs.Trees.{BlockTree, tree_at, AreBlockTrees}
use Rattle.kuratowski.specs.declared.subdivision.Subdivision.{Subdivision}
use Rattle.skel_embed.specs.declared.planes.Outcome.{Outcome}
use Rattle.spqr_session.specs.State.{Embedding, Family, entry_at, IsEntry}
use Rattle.spqr_session.specs.Embedded.{BlockView, block_view, IsEmbedded}
use Rattle.spqr_session.specs.Commands.Gml.{block_numbers, numbers_at, present_lists, marks}
use Rattle.spqr_session.specs.Texts.{with_number, with_numbers, bytes_of, own_numbers, AreExtended}
use Rattle.spqr_session.proofs.DisjointLists.{joined, joined-suc}
use Rattle.spqr_session.proofs.EdgesAt.{place-back}
use Rattle.spqr_session.proofs.StartLists.{vertices-distinct}

-- ---- numbers in one text

-- a number is written with a digit at least
abbrev IsSome : List ℕ → Type 0
IsSome l = (x : ℕ) × (xs : List ℕ) × (l ≡ x ∷ xs)

onto-some : (k n x : ℕ) (after : List ℕ) → IsSome (digits_onto k 10 false n (x ∷ after))
onto-some zero n x after = (x, after, refl)
onto-some (suc k) n x after = elim (cases_Bool (n / 10 == 0)) [
  | inl t ↦ (digit_glyph false (n % 10), x ∷ after, cond-true (n / 10 == 0) (digit_glyph false (n % 10) ∷ x ∷ after) (digits_onto k 10 false (n / 10) (digit_glyph false (n % 10) ∷ x ∷ after)) t)
  | inr f ↦ (let w = onto-some k (n / 10) (digit_glyph false (n % 10)) (x ∷ after) in (w.0, w.1, cond-false (n / 10 == 0) (digit_glyph false (n % 10) ∷ x ∷ after) (digits_onto k 10 false (n / 10) (digit_glyph false (n % 10) ∷ x ∷ after)) f ∙ w.2))
]

decimal-some : (n : ℕ) → IsSome (decimal n)
unfolding digits
decimal-some n = elim (cases_Bool (n / 10 == 0)) [
  | inl t ↦ (digit_glyph false (n % 10), [], cond-true (n / 10 == 0) (digit_glyph false (n % 10) ∷ []) (digits_onto 63 10 false (n / 10) (digit_glyph false (n % 10) ∷ [])) t)
  | inr f ↦ (let w = onto-some 63 (n / 10) (digit_glyph false (n % 10)) [] in (w.0, w.1, cond-false (n / 10 == 0) (digit_glyph false (n % 10) ∷ []) (digits_onto 63 10 false (n / 10) (digit_glyph false (n % 10) ∷ [])) f ∙ w.2))
]

-- numbers appended in two parts
pub numbers-append : (text xs ys : List ℕ) → with_numbers text (xs ++ ys) ≡ with_numbers (with_numbers text xs) ys
numbers-append text [] ys = refl
numbers-append text (x ∷ xs) ys = numbers-append (with_number text x) xs ys

-- after a text with something in it each has a space before it
numbers-spaced : (c : ℕ) (text es : List ℕ) → with_numbers (c ∷ text) es ≡ (c ∷ text) ++ spaced_numbers es
numbers-spaced c text [] = sym (append-nil (c ∷ text))
numbers-spaced c text (e ∷ es) =
    numbers-spaced c ((text ++ codes " ") ++ decimal e) es ∙ ap (λ (l : List ℕ). l ++ spaced_numbers es) (append_assoc (c ∷ text) (codes " ") (decimal e))
    ∙ append_assoc (c ∷ text) (codes " " ++ decimal e) (spaced_numbers es)

-- so from the empty text on there is one space between any two
pub numbers-text : (es : List ℕ) → with_numbers [] es ≡ numbers_text es
numbers-text [] = refl
numbers-text (e ∷ es) =
    let w = decimal-some e in
    ap (λ (l : List ℕ). with_numbers l es) w.2 ∙ numbers-spaced w.0 w.1 es ∙ ap (λ (l : List ℕ). l ++ spaced_numbers es) (sym w.2)

-- the text at a place with numbers more
pub put-text : (texts : List (Vec ℕ)) (v : ℕ) (old new : Vec ℕ) (more : List ℕ) → v < length texts → old ≡ get_or texts v old → new.items ≡ with_numbers old.items more → bytes_of (set texts v new) ≡ set (bytes_of texts) v (with_numbers (slice_index_or (bytes_of texts) v []) more)
put-text texts v old new more l is e =
    map-set (λ (t : Vec ℕ). t.items) texts v new
    ∙ ap (set (bytes_of texts) v) (e ∙ ap (λ (t : List ℕ). with_numbers t more) (ap (λ (t : Vec ℕ). t.items) is ∙ sym (get_or-map (λ (t : Vec ℕ). t.items) texts v old [] l)))

-- what holds of a text holds where nothing failed
pub ok-further : {A E : Type 0} (r : Result A E) (P Q : Type 0) → (P → Q) → OnOk r P → OnOk r Q
ok-further (Ok a) P Q f p = f p
ok-further (Err e) P Q f p = tt

pub bytes-long : (texts : List (Vec ℕ)) → length (bytes_of texts) ≡ length texts
bytes-long texts = length-map texts (λ (t : Vec ℕ). t.items)

-- ---- the edges of one block

-- those at a vertex of the graph, by the vertex of the block that it is
pub numbers-own : (tree : BlockTree) (o : Option Embedding) (v : ℕ) → block_numbers tree o v ≡ own_numbers tree o (place_of tree.part.vertices v)
numbers-own tree None v = refl
numbers-own tree (Some e) v = refl

-- a list without members
nil-from : (l : List ℕ) → ((x : ℕ) → is_member x l ≡ true → ⊥) → l ≡ []
nil-from [] h = refl
nil-from (x ∷ l) h = absurd (h x (member-head x l))

-- a number that is no vertex has no edges
pub own-none : (tree : BlockTree) (o : Option Embedding) (i : ℕ) → IsGraph tree.part.graph → ((e : Embedding) → o ≡ Some e → length e.rotation ≡ tree.part.graph.vertex_count) → tree.part.graph.vertex_count ≤ i → own_numbers tree o i ≡ []
own-none tree None i is long l =
    let g = tree.part.graph in
    ap (map (slice_index tree.part.edges)) (nil-from (incident_edges g i) (λ e m. omega (arith, l, end-in g i e is (member-edge g i e m) (member-end g i e m))))
own-none tree (Some e) i is long l = ap (map (slice_index tree.part.edges)) (get_or_past e.rotation i [] (omega (arith, l, long e refl)))

-- a rotation system of a planar block has an order for each vertex
entry-long : (tree : BlockTree) (certificate : Option Subdivision) (e : Embedding) → IsEntry tree certificate (Some e) → length e.rotation ≡ tree.part.graph.vertex_count
entry-long tree None e is = is.0.system.vertices
entry-long tree (Some s) e is = absurd is

pub embedded-long : (v : BlockView) (outcome : Outcome) → block_view v.tree.part outcome ≡ v → IsEmbedded v.tree.part outcome → (e : Embedding) → v.entry ≡ Some e → length e.rotation ≡ v.tree.part.graph.vertex_count
embedded-long v outcome seen is e there = entry-long v.tree v.certificate e (subst (IsEntry v.tree v.certificate) there (subst (λ (x : BlockView). IsEntry x.tree x.certificate x.entry) seen is.entry))

-- ---- the texts of all vertices

-- the edges of the first i vertices of a block, at vertex v of the graph
abbrev pub added_below : BlockTree → Option Embedding → ℕ → ℕ → List ℕ
added_below tree o i v = (if nat_lt (place_of tree.part.vertices v) i then block_numbers tree o v else [])

module _ (tree : BlockTree) (o : Option Embedding) where
  below-yes : (i v : ℕ) → place_of tree.part.vertices v < i → added_below tree o i v ≡ block_numbers tree o v
  below-yes i v l = cond-true (nat_lt (place_of tree.part.vertices v) i) (block_numbers tree o v) [] (lt-ltb (place_of tree.part.vertices v) i l)

  below-no : (i v : ℕ) → i ≤ place_of tree.part.vertices v → added_below tree o i v ≡ []
  below-no i v l = cond-false (nat_lt (place_of tree.part.vertices v) i) (block_numbers tree o v) [] (le-ltb (place_of tree.part.vertices v) i l)

module _ (tree : BlockTree) (o : Option Embedding) (numbered : IsNumbered tree.part) (old : List (List ℕ)) where
  -- one vertex more
  pub added-more : (i : ℕ) (now new : List (List ℕ)) → i < length tree.part.vertices → slice_index tree.part.vertices i < length old → AreExtended (added_below tree o i) old now
      → new ≡ set now (slice_index tree.part.vertices i) (with_numbers (slice_index_or now (slice_index tree.part.vertices i) []) (own_numbers tree o i))
      → AreExtended (added_below tree o (i + 1)) old new
  added-more i now new l within h e = subst (AreExtended (added_below tree o (i + 1)) old) (sym e) (record {
    long = length-set now w more ∙ h.long;
    each = λ v m. elim (cases_eq v w) [
      | inl q ↦ subst (λ (z : ℕ). slice_index_or (set now w more) z [] ≡ with_numbers (slice_index_or old z []) (added_below tree o (i + 1) z)) (sym q) here
      | inr n ↦ get_or-set_other now w v more [] n ∙ h.each v m ∙ ap (with_numbers (slice_index_or old v [])) (other v n)
    ];
  })
    where
      w : ℕ
      w = slice_index tree.part.vertices i

      more : List ℕ
      more = with_numbers (slice_index_or now w []) (own_numbers tree o i)

      at : place_of tree.part.vertices w ≡ i
      at = place-at tree.part.vertices i (vertices-distinct tree.part numbered) l

      here : slice_index_or (set now w more) w [] ≡ with_numbers (slice_index_or old w []) (added_below tree o (i + 1) w)
      here =
          get_or-set_same now w more [] (omega (arith, within, h.long))
          ∙ ap (λ (t : List ℕ). with_numbers t (own_numbers tree o i)) (h.each w within ∙ ap (with_numbers (slice_index_or old w [])) (below-no tree o i w (omega (arith, at))))
          ∙ ap (with_numbers (slice_index_or old w [])) (sym (below-yes tree o (i + 1) w (omega (arith, at)) ∙ numbers-own tree o w ∙ ap (own_numbers tree o) at))

      other : (v : ℕ) → v ≢ w → added_below tree o i v ≡ added_below tree o (i + 1) v
      other v n = elim (cases_lt (place_of tree.part.vertices v) i) [
        | inl b ↦ below-yes tree o i v b ∙ sym (below-yes tree o (i + 1) v (omega (arith, b)))
        | inr b ↦ below-no tree o i v b ∙ sym (below-no tree o (i + 1) v (after v n b))
      ]
        where
          after : (v : ℕ) → v ≢ w → i ≤ place_of tree.part.vertices v → i + 1 ≤ place_of tree.part.vertices v
          after v n b = elim (cases_eq (place_of tree.part.vertices v) i) [
            | inl q ↦ absurd (n (sym (place-back tree.part.vertices v (omega (arith, q, l))) ∙ ap (slice_index tree.part.vertices) q))
            | inr d ↦ omega (arith, b, d)
          ]

  -- all of them
  pub all-added : (new : List (List ℕ)) → ((e : Embedding) → o ≡ Some e → length e.rotation ≡ tree.part.graph.vertex_count) → AreExtended (added_below tree o tree.part.graph.vertex_count) old new → AreExtended (block_numbers tree o) old new
  all-added new long h = record { long = h.long; each = λ v l. h.each v l ∙ ap (with_numbers (slice_index_or old v [])) (whole v) }
    where
      whole : (v : ℕ) → added_below tree o tree.part.graph.vertex_count v ≡ block_numbers tree o v
      whole v = elim (cases_lt (place_of tree.part.vertices v) tree.part.graph.vertex_count) [
        | inl b ↦ below-yes tree o tree.part.graph.vertex_count v b
        | inr b ↦ below-no tree o tree.part.graph.vertex_count v b ∙ sym (numbers-own tree o v ∙ own-none tree o (place_of tree.part.vertices v) numbered.is_graph long b)
      ]

-- ---- all blocks

module _ (n : ℕ) (trees : List BlockTree) (family : Family) where
  -- the edges of each block at v
  abbrev block_list : ℕ → ℕ → List ℕ
  block_list v b = block_numbers (tree_at trees b) (entry_at family b) v

  -- the texts with the edges of the first k blocks
  pub record AreTexts (k : ℕ) (texts : List (List ℕ)) : Type 0 where
    pub long : length texts ≡ n
    pub each : (v : ℕ) → v < n → slice_index_or texts v [] ≡ with_numbers [] (joined (block_list v) k)

  -- one block more
  pub texts-more : (k : ℕ) (old new : List (List ℕ)) → AreTexts k old → AreExtended (block_numbers (tree_at trees k) (entry_at family k)) old new → AreTexts (k + 1) new
  texts-more k old new h more = rw add-one (record {
    long = more.long ∙ h.long;
    each = λ v l.
        more.each v (omega (arith, l, h.long)) ∙ ap (λ (t : List ℕ). with_numbers t (block_list v k)) (h.each v l)
        ∙ sym (ap (with_numbers []) (joined-suc (block_list v) k) ∙ numbers-append [] (joined (block_list v) k) (block_list v k));
  })

  -- so with all blocks they are the texts of `gml`
  pub all-texts : (texts : List (List ℕ)) → AreTexts (length trees) texts → texts ≡ marks n trees family
  all-texts texts h = ext_get_or [] texts (marks n trees family) (h.long ∙ sym long) (λ v l. (let m : v < n = omega (arith, l, h.long) in h.each v m ∙ numbers-text (joined (block_list v) (length trees)) ∙ sym (at v m)))
    where
      long : length (marks n trees family) ≡ n
      long = length-map (present_lists n trees family) numbers_text ∙ length-map (numbers_below n) (numbers_at trees family) ∙ length-numbers_below n

      at : (v : ℕ) → v < n → slice_index_or (marks n trees family) v [] ≡ numbers_text (numbers_at trees family v)
      at v m =
          get_or-map numbers_text (present_lists n trees family) v [] [] (omega (arith, m, length-map (numbers_below n) (numbers_at trees family), length-numbers_below n))
          ∙ ap numbers_text (get_or-map (numbers_at trees family) (numbers_below n) v 0 [] (omega (arith, m, length-numbers_below n)) ∙ ap (numbers_at trees family) (get_or-numbers_below n v 0 m))

-- the vertices of a block are vertices of the graph
pub tree-within : (g : Multigraph) (edges : List (List ℕ)) (trees : List BlockTree) (k m : ℕ) → IsGraph g → AreBlockTrees g edges trees → k < length trees → g.vertex_count ≡ m → All (λ v. v < m) (tree_at trees k).part.vertices
tree-within g edges trees k m is are l e =
    let tree = tree_at trees k in
    let part = (are.each k (omega (arith, l, are.one_each))).part in
    All-from_get_or (λ v. v < m) tree.part.vertices 0
    (λ i b. (let w = (part.vertices (slice_index tree.part.vertices i)).0 (Contains-get_or tree.part.vertices i 0 b) in omega (arith, end-in g (slice_index tree.part.vertices i) w.edge is w.is_edge w.ends_there, e)))
