-- The laws of streams of frames.
use Rattle.std.proofs.Common.{◌≡◌, ℕ, ◌<◌, ◌≤◌, inl, inr, List, [], ◌∷◌, ◌++◌, length, replicate, sym, ◌∙◌, ap, subst, refl, arith, append_assoc, length-append}
use Rattle.std.proofs.lemmas.List.{append-nil, length-replicate, nil_from_length}
use Rattle.rpc_frame.specs.Limits.{header_limit}
use Rattle.rpc_frame.specs.declared.head.Head.{Head}
use Rattle.rpc_frame.specs.declared.head.Next.TheVariants.{On, Closed}
use Rattle.rpc_frame.specs.Frames.{IsHeader, IsFrame, BeginsFrame, BeginsWith, FramesTo, HasNoFrame, Frames, IsBorder, IsSound, IsBroken}
use Rattle.rpc_frame.specs.Heads.{reading}
use Rattle.rpc_frame.proofs.StandLaws.{closed_header}
use Rattle.rpc_frame.proofs.EndLaws.{reads_on_header}
use Rattle.rpc_frame.proofs.HeaderLaws.{frame_some, one_frame, one_header, stands, GoesOver, fronts}

-- no frame stands in front of the bytes, and they begin none, however they go on
pub record NeverBegins (bytes : List ℕ) : Type 0 where
  pub none : HasNoFrame bytes
  pub never : BeginsFrame bytes → ⊥

-- a frame in front of anything
pub frame_begins : (frame body after : List ℕ) → IsFrame frame body → BeginsWith (frame ++ after) body after
frame_begins frame body after f = record { frame = frame; «is» = f; whole = refl }

pub begins_more : (s body after x : List ℕ) → BeginsWith s body after → BeginsWith (s ++ x) body (after ++ x)
begins_more s body after x w = record { frame = w.frame; «is» = w.is; whole = ap (λ t. t ++ x) w.whole ∙ append_assoc w.frame after x }

-- Each frame takes some bytes of the stream.
pub begins_fewer : (s body after : List ℕ) → BeginsWith s body after → length after < length s
begins_fewer s body after w = omega (arith, frame_some w.frame body w.is, ap length w.whole, length-append w.frame after)

-- nothing is no frame
pub nil_no_frame : HasNoFrame []
nil_no_frame = record {
  none = λ body after w. omega (arith, frame_some w.frame body w.is, ap length w.whole, length-append w.frame after);
}

-- What follows changes no frame.
pub frames_more : (b : List ℕ) (bs : List (List ℕ)) (r x : List ℕ) → FramesTo b bs r → FramesTo (b ++ x) bs (r ++ x)
frames_more b [] r x f = ap (λ t. t ++ x) f
frames_more b (c ∷ bs) r x f = record {
  after = f.after ++ x;
  begins = begins_more b c f.after x f.begins;
  others = frames_more f.after bs r x f.others;
}

pub FramesTo-append : (b : List ℕ) (bs cs : List (List ℕ)) (r t : List ℕ) → FramesTo b bs r → FramesTo r cs t → FramesTo b (bs ++ cs) t
FramesTo-append b [] cs r t f g = subst (λ s. FramesTo s cs t) (sym f) g
FramesTo-append b (c ∷ bs) cs r t f g = record {
  after = f.after;
  begins = f.begins;
  others = FramesTo-append f.after bs cs r t f.others g;
}

same_frames : (b : List ℕ) (bs cs : List (List ℕ)) (r t : List ℕ) → HasNoFrame r → HasNoFrame t → FramesTo b bs r → FramesTo b cs t → (bs ≡ cs) × (r ≡ t)
same_frames b [] [] r t n m f g = (refl, sym f ∙ g)
same_frames b [] (c ∷ cs) r t n m f g = absurd (n.none c g.after (subst (λ s. BeginsWith s c g.after) f g.begins))
same_frames b (d ∷ bs) [] r t n m f g = absurd (m.none d f.after (subst (λ s. BeginsWith s d f.after) g f.begins))
same_frames b (d ∷ bs) (c ∷ cs) r t n m f g =
    let same = one_frame b d c f.after g.after f.begins g.begins in
    let rest = same_frames f.after bs cs r t n m f.others (subst (λ s. FramesTo s cs t) (sym same.1) g.others) in
    let first = same.0 in
    let others = rest.0 in
    (cc, rest.1)

-- A stream has one list of contents, and one rest.
pub frames_unique : (b : List ℕ) (bs cs : List (List ℕ)) (r t : List ℕ) → Frames b bs r → Frames b cs t → (bs ≡ cs) × (r ≡ t)
frames_unique b bs cs r t f g = same_frames b bs cs r t f.none g.none f.frames g.frames

-- a content of so many bytes
pub zeros : ℕ → List ℕ
zeros n = replicate n 0

pub length-zeros : (n : ℕ) → length (zeros n) ≡ n
unfolding zeros
length-zeros n = length-replicate {A = ℕ} n 0

-- a proper front of a frame, of whose header part no more has come than its limit
pub record IsCut (bytes : List ℕ) : Type 0 where
  pub begins : BeginsFrame bytes
  pub some : 0 < length begins.more

closed_some : (bytes more : List ℕ) (head : Head) (size : ℕ) → reading bytes ≡ On head → reading (bytes ++ more) ≡ Closed size → 0 < length more
closed_some bytes [] head size on closed = let e = sym on ∙ sym (ap reading (append-nil bytes)) ∙ closed in cc
closed_some bytes (c ∷ more) head size on closed = omega arith

-- A part of a header part is one, unless it is too long.
pub on_cut : (bytes : List ℕ) (head : Head) → reading bytes ≡ On head → length bytes ≤ header_limit → IsCut bytes
on_cut bytes head e limit =
    let r = reads_on_header bytes head e in
    record {
      begins = record {
        more = r.more ++ zeros r.size;
        header = bytes ++ r.more;
        body = zeros r.size;
        «is» = subst (IsHeader (bytes ++ r.more)) (sym (length-zeros r.size)) (closed_header (bytes ++ r.more) r.size r.closed);
        limit = inl limit;
        whole = sym (append_assoc bytes r.more (zeros r.size));
      };
      some = omega (arith, closed_some bytes r.more head r.size e r.closed, length-append r.more (zeros r.size));
    }

pub nil_begins : BeginsFrame []
nil_begins = (on_cut [] _ refl (omega arith)).begins

pub begins_part : (b x : List ℕ) → BeginsFrame (b ++ x) → BeginsFrame b
begins_part b x w = record {
  more = x ++ w.more;
  header = w.header;
  body = w.body;
  «is» = w.is;
  limit = elim w.limit [ inl h ↦ inl (omega (arith, h, length-append b x)) | inr h ↦ inr h ];
  whole = sym (append_assoc b x w.more) ∙ w.whole;
}

-- a front of a frame
front_begins : (b frame body after x : List ℕ) → IsFrame frame body → GoesOver b frame x after → BeginsFrame b
front_begins b frame body after x f o = record {
  more = o.mid;
  header = f.header;
  body = body;
  «is» = f.is;
  limit = inr f.limit;
  whole = sym o.longer ∙ f.whole;
}

pub begins_sound : (b : List ℕ) → BeginsFrame b → IsSound b
begins_sound b w = record { bodies = []; rest = b; frames = refl; begins = w }

behind_sound : (b body after : List ℕ) → BeginsWith b body after → IsSound after → IsSound b
behind_sound b body after w s = record {
  bodies = body ∷ s.bodies;
  rest = s.rest;
  frames = record { after = after; begins = w; others = s.frames };
  begins = s.begins;
}

-- What frames go on from begins a list of frames.
frames_sound : (b x : List ℕ) (cs : List (List ℕ)) (t : List ℕ) → FramesTo (b ++ x) cs t → BeginsFrame t → IsSound b
frames_sound b x [] t f w = begins_sound b (begins_part b x (subst BeginsFrame (sym f) w))
frames_sound b x (c ∷ cs) t f w = elim (fronts f.begins.frame b f.after x (sym f.begins.whole)) [
  | inl o ↦ behind_sound b c o.mid (record { frame = f.begins.frame; «is» = f.begins.is; whole = o.longer })
      (frames_sound o.mid x cs t (subst (λ s. FramesTo s cs t) o.rest f.others) w)
  | inr o ↦ begins_sound b (front_begins b f.begins.frame c f.after x f.begins.is o)
]

-- Behind frames in front of a list of frames stands the rest of that list.
pub sound_rest : (b : List ℕ) (bs : List (List ℕ)) (r x : List ℕ) (cs : List (List ℕ)) → FramesTo b bs r → FramesTo (b ++ x) cs [] → IsSound r
sound_rest b [] r x cs f g = frames_sound r x cs [] (subst (λ s. FramesTo (s ++ x) cs []) f g) nil_begins
sound_rest b (d ∷ bs) r x [] f g =
    let more = begins_more b d f.after x f.begins in
    absurd (nil_no_frame.none d (f.after ++ x) (subst (λ s. BeginsWith s d (f.after ++ x)) g more))
sound_rest b (d ∷ bs) r x (c ∷ cs) f g =
    let same = one_frame (b ++ x) d c (f.after ++ x) g.after (begins_more b d f.after x f.begins) g.begins in
    sound_rest f.after bs r x cs f.others (subst (λ s. FramesTo s cs []) (sym same.1) g.others)

pub sound_front : (b : List ℕ) (bs : List (List ℕ)) (r : List ℕ) → FramesTo b bs r → IsSound r → IsSound b
sound_front b bs r f s = record {
  bodies = bs ++ s.bodies;
  rest = s.rest;
  frames = FramesTo-append b bs s.bodies r s.rest f s.frames;
  begins = s.begins;
}

-- Behind a frame that was only begun stands nothing.
begun_whole : (b body after : List ℕ) → BeginsWith b body after → BeginsFrame b → after ≡ []
begun_whole b body after w p =
    let same = one_header w.is.header p.header ((body ++ after) ++ p.more) p.body (length body) (length p.body) w.is.is p.is
    (sym (append_assoc w.is.header (body ++ after) p.more) ∙ ap (λ t. t ++ p.more) (sym (stands b body after w)) ∙ p.whole) in
    nil_from_length after (omega (arith, same.size, ap length same.rest, length-append (body ++ after) p.more, length-append body after))

behind_frames : (b : List ℕ) (bs : List (List ℕ)) (r : List ℕ) (ds : List (List ℕ)) (t : List ℕ) → FramesTo b bs r → FramesTo b ds t → BeginsFrame t → IsSound r
behind_frames b [] r ds t f g w = record { bodies = ds; rest = t; frames = subst (λ s. FramesTo s ds t) f g; begins = w }
behind_frames b (d ∷ bs) r [] t f g w =
    let none : f.after ≡ [] = begun_whole b d f.after f.begins (subst BeginsFrame (sym g) w) in
    behind_frames f.after bs r [] f.after f.others refl (subst BeginsFrame (sym none) nil_begins)
behind_frames b (d ∷ bs) r (c ∷ ds) t f g w =
    let same = one_frame b d c f.after g.after f.begins g.begins in
    behind_frames f.after bs r ds t f.others (subst (λ s. FramesTo s ds t) (sym same.1) g.others) w

pub sound_behind : (b : List ℕ) (bs : List (List ℕ)) (r : List ℕ) → FramesTo b bs r → IsSound b → IsSound r
sound_behind b bs r f s = behind_frames b bs r s.bodies s.rest f s.frames s.begins

pub broken_front : (b : List ℕ) (bs : List (List ℕ)) (r : List ℕ) → FramesTo b bs r → IsBroken r → IsBroken b
broken_front b bs r f broken = record { none = λ s. broken.none (sound_behind b bs r f s) }

pub broken_rest : (b : List ℕ) (bs : List (List ℕ)) (r : List ℕ) → FramesTo b bs r → IsBroken b → IsBroken r
broken_rest b bs r f broken = record { none = λ s. broken.none (sound_front b bs r f s) }

pub sound_part : (b x : List ℕ) → IsSound (b ++ x) → IsSound b
sound_part b x s = frames_sound b x s.bodies s.rest s.frames s.begins

pub broken_more : (b x : List ℕ) → IsBroken b → IsBroken (b ++ x)
broken_more b x broken = record { none = λ s. broken.none (sound_part b x s) }

pub broken_not_sound : (b : List ℕ) → IsBroken b → IsSound b → ⊥
broken_not_sound b broken s = broken.none s

-- frames and nothing more are the front of a list of frames
pub border_sound : (b : List ℕ) → IsBorder b → IsSound b
border_sound b border = record { bodies = border.bodies; rest = []; frames = border.frames; begins = nil_begins }

-- Where the rest begins with no frame and is something, the stream doesn't end with a frame.
pub rest_no_border : (b : List ℕ) (bs : List (List ℕ)) (r : List ℕ) → FramesTo b bs r → HasNoFrame r → 0 < length r → IsBorder b → ⊥
rest_no_border b bs r f none some border =
    omega (arith, some, ap length (same_frames b bs border.bodies r [] none nil_no_frame f border.frames).1)

pub cut_sound : (b : List ℕ) → IsCut b → IsSound b
cut_sound b cut = begins_sound b cut.begins

pub cut_no_frame : (b : List ℕ) → IsCut b → HasNoFrame b
cut_no_frame b cut = record {
  none = λ body after w.
      let p = cut.begins in
      let same = one_header w.is.header p.header ((body ++ after) ++ p.more) p.body (length body) (length p.body) w.is.is p.is
      (sym (append_assoc w.is.header (body ++ after) p.more) ∙ ap (λ t. t ++ p.more) (sym (stands b body after w)) ∙ p.whole) in
      omega (arith, cut.some, same.size, ap length same.rest, length-append (body ++ after) p.more, length-append body after);
}

pub never_broken : (b : List ℕ) → NeverBegins b → IsBroken b
never_broken b n = record { none = λ s. never_frames b n s.bodies s.rest s.frames s.begins } where
  never_frames : (b : List ℕ) → NeverBegins b → (cs : List (List ℕ)) (t : List ℕ) → FramesTo b cs t → BeginsFrame t → ⊥
  never_frames b n [] t e w = n.never (subst BeginsFrame (sym e) w)
  never_frames b n (c ∷ cs) t f w = n.none.none c f.after f.begins

pub never_no_frame : (b : List ℕ) → NeverBegins b → HasNoFrame b
never_no_frame b n = n.none

pub never_more : (b x : List ℕ) → NeverBegins b → NeverBegins (b ++ x)
never_more b x n = record {
  none = record {
    none = λ body after w. elim (fronts w.frame b after x (sym w.whole)) [
      | inl o ↦ n.none.none body o.mid (record { frame = w.frame; «is» = w.is; whole = o.longer })
      | inr o ↦ n.never (front_begins b w.frame body after x w.is o)
    ];
  };
  never = λ w. n.never (begins_part b x w);
}

-- the frames in front of a rest, apart from it
pub record FramesApart (b : List ℕ) (bs : List (List ℕ)) (r : List ℕ) : Type 0 where
  pub front : List ℕ
  pub whole : b ≡ front ++ r
  pub frames : FramesTo front bs []

pub frames_apart : (b : List ℕ) (bs : List (List ℕ)) (r : List ℕ) → FramesTo b bs r → FramesApart b bs r
frames_apart b [] r f = record { front = []; whole = f; frames = refl }
frames_apart b (c ∷ bs) r f =
    let others = frames_apart f.after bs r f.others in
    record {
      front = f.begins.frame ++ others.front;
      whole = f.begins.whole ∙ ap (λ t. f.begins.frame ++ t) others.whole ∙ sym (append_assoc f.begins.frame others.front r);
      frames = record { after = others.front; begins = frame_begins f.begins.frame c others.front f.begins.is; others = others.frames };
    }
