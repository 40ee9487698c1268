-- One item more: the partial document before it and after it.
use Rattle.std.proofs.Common.{◌≡◌, ℕ, ◌<◌, true, List, [], ◌∷◌, ◌++◌, length, refl, sym, ap, subst, arith, Bor}
use Rattle.std.proofs.lemmas.List.{length-append}
use Rattle.gml_text.specs.Document.{Document, empty, number, string, list, append, depth, IsWithinDepth}
use Rattle.gml_text.specs.Grammar.{is_gap, CloseStands}
use Rattle.gml_text.specs.Reading.{Follows}
use Rattle.gml_text.specs.Items.{ItemStands}
use Rattle.gml_text.specs.Partial.{Frame, closed, plug, Completes, frames_of, pairs_of, IsPartial, Advances, IsOver, IsTaken, IsClosed}
use Rattle.gml_text.specs.declared.partial.Partial.{Partial}
use Rattle.gml_text.specs.declared.item.Found.{Found}
use Rattle.gml_text.specs.declared.item.Found.TheVariants.{Number, Text, Open}
use Rattle.gml_text.specs.declared.item.Item.TheVariants.{Pair}
use Rattle.gml_text.proofs.OtherRest.{stands_split, stands_other, some_text, pair_read}
use Rattle.gml_text.proofs.Completes.{Same, same_number, same_string, same_open, same_close, over_forth, over_back}
use Rattle.gml_text.proofs.Depth.{depth_plug-append, length-frames}

-- a step between partial documents, from one between their lists
advances_of : (old new : Partial) (bytes behind read : List ℕ) (frames : List Frame) (pairs : Document) → frames_of new ≡ frames → pairs_of new ≡ pairs → bytes ≡ read ++ behind → 0 < length read → ((more : List ℕ) → Follows more behind → Same (frames_of old) (pairs_of old) (read ++ more) frames pairs more) → IsWithinDepth (plug frames pairs) → Advances old bytes new behind
advances_of old new bytes behind read frames pairs e f split some same within =
    record {
      read = read;
      split = split;
      some = some;
      forth = λ more follows d c.
          subst (λ (fs : List Frame). Completes fs (pairs_of new) more d) (sym e)
          (subst (λ (ps : Document). Completes frames ps more d) (sym f) ((same more follows).forth d c));
      back = λ more follows d c.
          (same more follows).back d
          (subst (λ (ps : Document). Completes frames ps more d) f
          (subst (λ (fs : List Frame). Completes fs (pairs_of new) more d) e c));
      within =
          subst (λ (fs : List Frame). IsWithinDepth (plug fs (pairs_of new))) (sym e)
          (subst (λ (ps : Document). IsWithinDepth (plug frames ps)) (sym f) within);
      shorter = omega (arith, ap length split, length-append read behind);
    }

pub flat_within : (frames : List Frame) (pairs more : Document) → depth more ≡ 0 → IsWithinDepth (plug frames pairs) → IsWithinDepth (plug frames (append pairs more))
flat_within frames pairs more flat within = omega (arith, depth_plug-append frames pairs more, length-frames frames pairs)

-- a pair that is taken, or whose list is opened
pub advances_pair : (key : Bor (List ℕ)) (found : Found) (behind : Bor (List ℕ)) (old new : Partial) (bytes : List ℕ) → ItemStands (Pair key found behind) bytes → IsTaken key.now found old new → IsPartial old → Advances old bytes new behind.now
advances_pair key (Number text) behind old new bytes s taken within =
    let r = pair_read key.now (Number text) bytes s.0 behind.now s.1 s.2 in
    advances_of old new bytes behind.now r.read (frames_of old) (append (pairs_of old) (number key.now text.now empty)) taken.0 taken.1 r.split r.some
    (λ more f. let o = r.other more f in same_number (frames_of old) (pairs_of old) (r.read ++ more) o.0 more key.now text.now o.1 o.2)
    (flat_within (frames_of old) (pairs_of old) (number key.now text.now empty) refl within)
advances_pair key (Text text) behind old new bytes s taken within =
    let r = pair_read key.now (Text text) bytes s.0 behind.now s.1 s.2 in
    advances_of old new bytes behind.now r.read (frames_of old) (append (pairs_of old) (string key.now text.now empty)) taken.0 taken.1 r.split r.some
    (λ more f. let o = r.other more f in same_string (frames_of old) (pairs_of old) (r.read ++ more) o.0 more key.now text.now o.1 o.2)
    (flat_within (frames_of old) (pairs_of old) (string key.now text.now empty) refl within)
advances_pair key Open behind old new bytes s taken within =
    let r = pair_read key.now Open bytes s.0 behind.now s.1 s.2 in
    advances_of old new bytes behind.now r.read (record { before = pairs_of old; key = key.now } ∷ frames_of old) empty taken.0 taken.1 r.split r.some
    (λ more f. let o = r.other more f in same_open (frames_of old) (pairs_of old) (r.read ++ more) o.0 more key.now o.1 o.2)
    (omega (arith, depth_plug-append (frames_of old) (pairs_of old) (list key.now empty empty), taken.2))

-- the innermost list closed
pub advances_close : (old new : Partial) (bytes behind : List ℕ) → CloseStands bytes behind → IsClosed old new → IsPartial old → Advances old bytes new behind
advances_close old new bytes behind s is within =
    advances_of old new bytes behind (s.gap ++ (93 ∷ [])) (frames_of new) (closed is.frame (pairs_of old)) refl is.pairs
    (stands_split (93 ∷ []) bytes behind s)
    (some_text s.gap (93 ∷ []) (omega arith))
    (λ more f.
    subst (λ (fs : List Frame). Same fs (pairs_of old) ((s.gap ++ (93 ∷ [])) ++ more) (frames_of new) (closed is.frame (pairs_of old)) more) (sym is.frames)
    (same_close is.frame (frames_of new) (pairs_of old) ((s.gap ++ (93 ∷ [])) ++ more) more (stands_other (93 ∷ []) bytes behind s more)))
    (subst (λ (fs : List Frame). IsWithinDepth (plug fs (pairs_of old))) is.frames within)

-- the end, with no list open
no_frames : (frames : List Frame) → length frames ≡ 0 → frames ≡ []
no_frames [] e = refl
no_frames (frame ∷ frames) e = absurd (omega arith)

pub over_end : (old : Partial) (bytes : List ℕ) → length (frames_of old) ≡ 0 → is_gap true bytes ≡ true → IsPartial old → IsOver old bytes
over_end old bytes none last within =
    let e : frames_of old ≡ [] = no_frames (frames_of old) none in
    record {
      forth = λ d c. over_forth (pairs_of old) bytes d last (subst (λ (fs : List Frame). Completes fs (pairs_of old) bytes d) e c);
      back = subst (λ (fs : List Frame). Completes fs (pairs_of old) bytes (pairs_of old)) (sym e) (over_back (pairs_of old) bytes last);
      within = subst (λ (fs : List Frame). IsWithinDepth (plug fs (pairs_of old))) e within;
    }
