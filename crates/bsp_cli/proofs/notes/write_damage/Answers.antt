use Rattle.std.proofs.Common.{◌≡◌, ◌∙◌, decimal, codes, subst}
use Rattle.bsp_edge.specs.Streams.{Gives}
use Rattle.bsp_cli.specs.Notes.{damaged_at, kind_name}
use Rattle.bsp_cli.specs.Writing.{GivesFront}
use Rattle.bsp_cli.proofs.WritingLaws.{front_before, noted_place, noted_colon, noted_kind, noted_last, noted_whole, on_err, on_err_then, on_ok_then}
use Rattle.bsp_cli.proofs.notes.write_damage.Goals as goal

pub returns-in_err-write_all-clause-part : goal.returns-in_err-write_all-clause-part
unfolding damaged_at
returns-in_err-write_all-clause-part g c = on_err _ _ (front_before _ _ _ _ c.in_err-write_all.ensures.part)

pub returns-in_err-write_all-2-clause-part : goal.returns-in_err-write_all-2-clause-part
unfolding damaged_at
returns-in_err-write_all-2-clause-part g c =
    let place : c.as_bytes-offset.result.now ≡ decimal c.args.damage.place = c.as_bytes-offset.ensures.value ∙ c.format.ensures.text in
    on_err _ _ (noted_place (g.K.Sink.given c.args.notes.now) (g.K.Sink.given c.write_all.new.output) (g.K.Sink.given c.write_all-2.new.output) (g.K.Sink.given c.write_all-2.new.output) (g.K.Sink.given c.write_all-2.new.output) (g.K.Sink.given c.write_all-2.new.output) damaged_at (decimal c.args.damage.place) (codes ": ") (kind_name c.args.damage.kind) (codes "\n") c.in_ok-write_all.ensures.given
    (subst (λ text. GivesFront (g.K.Sink.given c.write_all.new.output) (g.K.Sink.given c.write_all-2.new.output) text) place c.in_err-write_all-2.ensures.part))

pub returns-in_err-write_all-3-clause-part : goal.returns-in_err-write_all-3-clause-part
unfolding damaged_at
returns-in_err-write_all-3-clause-part g c =
    let place : c.as_bytes-offset.result.now ≡ decimal c.args.damage.place = c.as_bytes-offset.ensures.value ∙ c.format.ensures.text in
    let second = subst (λ text. Gives (g.K.Sink.given c.write_all.new.output) (g.K.Sink.given c.write_all-2.new.output) text) place c.in_ok-write_all-2.ensures.given in
    on_err _ _ (noted_colon (g.K.Sink.given c.args.notes.now) (g.K.Sink.given c.write_all.new.output) (g.K.Sink.given c.write_all-2.new.output) (g.K.Sink.given c.write_all-3.new.output) (g.K.Sink.given c.write_all-3.new.output) (g.K.Sink.given c.write_all-3.new.output) damaged_at (decimal c.args.damage.place) (codes ": ") (kind_name c.args.damage.kind) (codes "\n") c.in_ok-write_all.ensures.given second c.in_err-write_all-3.ensures.part)

pub returns-in_err-write_all-4-clause-part : goal.returns-in_err-write_all-4-clause-part
unfolding damaged_at
returns-in_err-write_all-4-clause-part g c =
    let place : c.as_bytes-offset.result.now ≡ decimal c.args.damage.place = c.as_bytes-offset.ensures.value ∙ c.format.ensures.text in
    let second = subst (λ text. Gives (g.K.Sink.given c.write_all.new.output) (g.K.Sink.given c.write_all-2.new.output) text) place c.in_ok-write_all-2.ensures.given in
    on_err _ _ (noted_kind (g.K.Sink.given c.args.notes.now) (g.K.Sink.given c.write_all.new.output) (g.K.Sink.given c.write_all-2.new.output) (g.K.Sink.given c.write_all-3.new.output) (g.K.Sink.given c.write_all-4.new.output) (g.K.Sink.given c.write_all-4.new.output) damaged_at (decimal c.args.damage.place) (codes ": ") (kind_name c.args.damage.kind) (codes "\n") c.in_ok-write_all.ensures.given second c.in_ok-write_all-3.ensures.given
    (subst (λ text. GivesFront (g.K.Sink.given c.write_all-3.new.output) (g.K.Sink.given c.write_all-4.new.output) text) c.kind_name.ensures c.in_err-write_all-4.ensures.part))

pub returns-clause-given : goal.returns-clause-given
unfolding damaged_at
returns-clause-given g c =
    let place : c.as_bytes-offset.result.now ≡ decimal c.args.damage.place = c.as_bytes-offset.ensures.value ∙ c.format.ensures.text in
    let second = subst (λ text. Gives (g.K.Sink.given c.write_all.new.output) (g.K.Sink.given c.write_all-2.new.output) text) place c.in_ok-write_all-2.ensures.given in
    let fourth = subst (λ text. Gives (g.K.Sink.given c.write_all-3.new.output) (g.K.Sink.given c.write_all-4.new.output) text) c.kind_name.ensures c.in_ok-write_all-4.ensures.given in
    on_ok_then _ _ _ (noted_whole (g.K.Sink.given c.args.notes.now) (g.K.Sink.given c.write_all.new.output) (g.K.Sink.given c.write_all-2.new.output) (g.K.Sink.given c.write_all-3.new.output) (g.K.Sink.given c.write_all-4.new.output) (g.K.Sink.given c.write_all-5.new.output) damaged_at (decimal c.args.damage.place) (codes ": ") (kind_name c.args.damage.kind) (codes "\n") c.in_ok-write_all.ensures.given second c.in_ok-write_all-3.ensures.given fourth) c.write_all-5.ensures.given

pub returns-clause-part : goal.returns-clause-part
unfolding damaged_at
returns-clause-part g c =
    let place : c.as_bytes-offset.result.now ≡ decimal c.args.damage.place = c.as_bytes-offset.ensures.value ∙ c.format.ensures.text in
    let second = subst (λ text. Gives (g.K.Sink.given c.write_all.new.output) (g.K.Sink.given c.write_all-2.new.output) text) place c.in_ok-write_all-2.ensures.given in
    let fourth = subst (λ text. Gives (g.K.Sink.given c.write_all-3.new.output) (g.K.Sink.given c.write_all-4.new.output) text) c.kind_name.ensures c.in_ok-write_all-4.ensures.given in
    on_err_then _ _ _ (noted_last (g.K.Sink.given c.args.notes.now) (g.K.Sink.given c.write_all.new.output) (g.K.Sink.given c.write_all-2.new.output) (g.K.Sink.given c.write_all-3.new.output) (g.K.Sink.given c.write_all-4.new.output) (g.K.Sink.given c.write_all-5.new.output) damaged_at (decimal c.args.damage.place) (codes ": ") (kind_name c.args.damage.kind) (codes "\n") c.in_ok-write_all.ensures.given second c.in_ok-write_all-3.ensures.given fourth) c.write_all-5.ensures.part
