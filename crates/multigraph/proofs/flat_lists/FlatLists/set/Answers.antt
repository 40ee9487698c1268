use Rattle.std.proofs.Common.{◌≡◌, ◌<◌, ◌-◌, List, [], ◌++◌, length, take, drop, slice_index_or, slice_set, sym, ap, ◌∙◌, subst}
use Rattle.std.proofs.lemmas.List.{length-set, with_items_is}
use Rattle.multigraph.specs.Flat.{cut_from, AreFlat}
use Rattle.multigraph.proofs.Flat.{flat-view, flat-again, piece-of, flat-put, put-length}
use Rattle.multigraph.proofs.flat_lists.FlatLists.set.Goals as goal

pub write-requires : goal.write-requires
write-requires g c =
    let lists = c.args.self.now in
    let m = c.deref_mut.result.now in
    let ends = c.self.inside.ends.items in
    let s = c.bounds-start.result.0 in
    let e = c.bounds-start.result.1 in
    let f : AreFlat lists m ends = subst (λ (z : List g.row.T.Denot). AreFlat lists z ends) (sym c.deref_mut.ensures.value) (subst (λ (z : List (List g.row.T.Denot)). AreFlat z c.self.inside.values.items c.self.inside.ends.items) c.self.view_is c.self.invariant) in
    let piece : take (e - s) (drop s m) ≡ slice_index_or lists c.args.k [] = piece-of lists m ends f c.args.k c.requires.list s e c.bounds-start.ensures.start c.bounds-start.ensures.end in
    subst (λ (z : List g.row.T.Denot). c.args.place < length z) (sym piece) c.requires.place

pub invariant_of-self : goal.invariant_of-self
invariant_of-self g c =
    let lists = c.args.self.now in
    let m = c.deref_mut.result.now in
    let ends = c.self.inside.ends.items in
    let s = c.bounds-start.result.0 in
    let e = c.bounds-start.result.1 in
    let f : AreFlat lists m ends = subst (λ (z : List g.row.T.Denot). AreFlat lists z ends) (sym c.deref_mut.ensures.value) (subst (λ (z : List (List g.row.T.Denot)). AreFlat z c.self.inside.values.items c.self.inside.ends.items) c.self.view_is c.self.invariant) in
    let piece : take (e - s) (drop s m) ≡ slice_index_or lists c.args.k [] = piece-of lists m ends f c.args.k c.requires.list s e c.bounds-start.ensures.start c.bounds-start.ensures.end in
    let y = c.write.new.list in
    let is : y ≡ slice_set (slice_index_or lists c.args.k []) c.args.place c.args.value = c.write.ensures ∙ ap (λ (z : List g.row.T.Denot). slice_set z c.args.place c.args.value) piece in
    let same : length y ≡ length (slice_index_or lists c.args.k []) = ap length is ∙ length-set (slice_index_or lists c.args.k []) c.args.place c.args.value in
    let x = take s m ++ (y ++ drop (e - s) (drop s m)) in
    let put : AreFlat (slice_set lists c.args.k y) x ends = flat-put lists m ends f c.args.k c.requires.list s e c.bounds-start.ensures.start c.bounds-start.ensures.end y same in
    let w = with_items_is c.self.inside.values x (put-length lists m ends f c.args.k c.requires.list s e c.bounds-start.ensures.start c.bounds-start.ensures.end y same ∙ c.deref_mut.ensures.len) in
    subst (λ (z : List g.row.T.Denot). AreFlat (cut_from 0 ends z) z ends) (sym w) (flat-again (slice_set lists c.args.k y) x ends put)

pub returns : goal.returns
returns g c =
    let lists = c.args.self.now in
    let m = c.deref_mut.result.now in
    let ends = c.self.inside.ends.items in
    let s = c.bounds-start.result.0 in
    let e = c.bounds-start.result.1 in
    let f : AreFlat lists m ends = subst (λ (z : List g.row.T.Denot). AreFlat lists z ends) (sym c.deref_mut.ensures.value) (subst (λ (z : List (List g.row.T.Denot)). AreFlat z c.self.inside.values.items c.self.inside.ends.items) c.self.view_is c.self.invariant) in
    let piece : take (e - s) (drop s m) ≡ slice_index_or lists c.args.k [] = piece-of lists m ends f c.args.k c.requires.list s e c.bounds-start.ensures.start c.bounds-start.ensures.end in
    let y = c.write.new.list in
    let is : y ≡ slice_set (slice_index_or lists c.args.k []) c.args.place c.args.value = c.write.ensures ∙ ap (λ (z : List g.row.T.Denot). slice_set z c.args.place c.args.value) piece in
    let same : length y ≡ length (slice_index_or lists c.args.k []) = ap length is ∙ length-set (slice_index_or lists c.args.k []) c.args.place c.args.value in
    let x = take s m ++ (y ++ drop (e - s) (drop s m)) in
    let put : AreFlat (slice_set lists c.args.k y) x ends = flat-put lists m ends f c.args.k c.requires.list s e c.bounds-start.ensures.start c.bounds-start.ensures.end y same in
    let w = with_items_is c.self.inside.values x (put-length lists m ends f c.args.k c.requires.list s e c.bounds-start.ensures.start c.bounds-start.ensures.end y same ∙ c.deref_mut.ensures.len) in
    ap (cut_from 0 ends) w ∙ flat-view (slice_set lists c.args.k y) x ends put ∙ ap (slice_set lists c.args.k) is
