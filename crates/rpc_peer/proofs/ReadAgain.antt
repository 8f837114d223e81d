-- The value that a message is written as is that message again.
use Rattle.std.proofs.Common.{◌≡◌, ◌<◌, ◌≤◌, ◌^◌, ℕ, ℤ, pos, negsuc, List, length, nat_lt, nat_le, true, cond, Option, Some, None, option_map, Ok, refl, ap, ◌∙◌, arith}
use Rattle.std.specs.Prelude.{FitsSigned, option_and_then}
use Rattle.std.specs.Int.{w64}
use Rattle.std.specs.Str.{IsUtf8}
use Rattle.std.proofs.lemmas.Bool.Decides.{nat_tests}
use Rattle.std.proofs.lemmas.Int.{ints}
use Rattle.serde_json.specs.Data.{Data, null, boolean, number, string, array, object}
use Rattle.serde_json.specs.Find.{as_i64, of_integer}
use Rattle.serde_json.specs.Read.{read}
use Rattle.rpc_peer.specs.declared.message.Id.{Id}
use Rattle.rpc_peer.specs.declared.message.Id.TheVariants.{Number, Text}
use Rattle.rpc_peer.specs.Said.{Said, request, notification, result, failure, said_data, id_data, answered_data, id_limit, IsId, IsAnyId}
use Rattle.rpc_peer.specs.Meaning.{meaning, meaning_of, message_in, id_in, answered_id, failure_with, message_or}
use Rattle.rpc_peer.specs.Returning.{Returns, HasCode, IsParams}
use Rattle.rpc_peer.proofs.Bodies.{body_value-of_text}

number_again : (z : ℤ) → FitsSigned w64 z → as_i64 (of_integer z) ≡ Some z
number_again (pos n) fits =
    let small : n < 2 ^ 63 = omega (arith, ints) in
    let test : nat_lt n (2 ^ 63) ≡ true = grind (arith, nat_tests) in
    ap (λ b. cond b (Some (pos n)) None) test
number_again (negsuc n) fits = refl

id_again : (id : Id) → IsId id → id_in (id_data id) ≡ Some id
id_again (Number n) h = ap (option_map Number) (number_again n h)
id_again (Text t) h =
    let short : length t ≤ id_limit = h.1 in
    let test : nat_le (length t) id_limit ≡ true = grind (arith, nat_tests) in
    ap (λ b. cond b (Some (Text t)) None) test

answered_again : (id : Option Id) → IsAnyId id → answered_id (answered_data id) ≡ Some id
answered_again None h = refl
answered_again (Some (Number n)) h = ap (option_map Some) (id_again (Number n) h)
answered_again (Some (Text t)) h = ap (option_map Some) (id_again (Text t) h)

request_again : (id : Id) (method : List ℕ) (params : Option Data) → IsId id → IsParams params → message_in (said_data (request id method params)) ≡ Some (request id method params)
request_again id method None h k = ap (option_map (λ i. request i method None)) (id_again id h)
request_again id method (Some null) h k = absurd k
request_again id method (Some (boolean b)) h k = absurd k
request_again id method (Some (number n)) h k = absurd k
request_again id method (Some (string t)) h k = absurd k
request_again id method (Some (array items)) h k = ap (option_map (λ i. request i method (Some (array items)))) (id_again id h)
request_again id method (Some (object ms)) h k = ap (option_map (λ i. request i method (Some (object ms)))) (id_again id h)

notification_again : (method : List ℕ) (params : Option Data) → IsParams params → message_in (said_data (notification method params)) ≡ Some (notification method params)
notification_again method None k = refl
notification_again method (Some null) k = absurd k
notification_again method (Some (boolean b)) k = absurd k
notification_again method (Some (number n)) k = absurd k
notification_again method (Some (string t)) k = absurd k
notification_again method (Some (array items)) k = refl
notification_again method (Some (object ms)) k = refl

failed_again : (id : Option Id) (code : ℤ) (message : List ℕ) → FitsSigned w64 code → failure_with id (as_i64 (of_integer code)) (Some message) ≡ Some (failure id code message)
failed_again id code message h = ap (λ c. failure_with id c (Some message)) (number_again code h)

message_again : (m : Said) → Returns m → HasCode m → message_in (said_data m) ≡ Some m
message_again (request id method params) h code = request_again id method params h.id h.params
message_again (notification method params) h code = notification_again method params h.params
message_again (result id value) h code =
    ap (option_and_then (λ i. Some (result i value))) (answered_again id h.id)
message_again (failure id code message) h fits =
    ap (option_and_then (λ i. failure_with i (as_i64 (of_integer code)) (Some message))) (answered_again id h.id) ∙ failed_again id code message fits

-- a body that is read as the value of a message means that message
pub means_again : (m : Said) (body : List ℕ) → Returns m → HasCode m → IsUtf8 body → read body ≡ Some (said_data m) → meaning body ≡ Ok m
unfolding meaning
means_again m body h code text reads =
    ap meaning_of (body_value-of_text body text ∙ reads) ∙ ap message_or (message_again m h code)
