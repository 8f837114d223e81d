-- The notifications of the server are printed in one way, and fit a frame.
use Rattle.std.proofs.Common.{◌≡◌, ◌≤◌, ◌+◌, ◌*◌, ℕ, List, length, true, false, Some, lit≤, refl, arith}
use Rattle.std.specs.Prelude.{codes}
use Rattle.bsp_records.proofs.ShortLaws.{length_member, text_short}
use Rattle.ob_text.proofs.AsciiLaws.{all_ascii, text_from_test}
use Rattle.rpc_peer.specs.Said.{notification, body_of, version}
use Rattle.serde_json.specs.Data.{Data, string, member, no_members}
use Rattle.serde_json.specs.Written.{compact_text, members_text, has_float}
use Rattle.session_law.specs.IsFramed.{IsFramed, is_notice}

pub notice_short : (method : List ℕ) (params : Data) → length (body_of (notification method (Some params))) ≤ 6 * length method + (length (compact_text params) + 300)
unfolding body_of
notice_short method params =
    let first = length_member false (codes "jsonrpc") version (member (codes "method") (string method) (member (codes "params") params no_members)) in
    let second = length_member true (codes "method") (string method) (member (codes "params") params no_members) in
    let third = length_member true (codes "params") params no_members in
    let keys = text_short (codes "jsonrpc") in
    let key = text_short (codes "method") in
    let last_key = text_short (codes "params") in
    let number = text_short (codes "2.0") in
    let name = text_short method in
    let last : length (members_text true no_members) ≤ 1 = lit≤ tt in
    omega arith

-- the most bytes of its params
abbrev pub params_limit : ℕ
params_limit = 16000000

pub framed_notice : (method : List ℕ) (params : Data) → is_notice method ≡ true → all_ascii method ≡ true → length method ≤ 100
    → has_float params ≡ false → length (compact_text params) ≤ params_limit → IsFramed (notification method (Some params))
framed_notice method params named plain small exact short =
    record {
      of_server = named;
      texts = text_from_test method plain;
      exact = rw exact refl;
      fits = let whole = notice_short method params in omega arith;
    }
