-- IsFramed: each write is a whole message of the server.
use Rattle.std.specs.Prelude.{◌≡◌, ◌≤◌, ◌||◌, ℕ, List, length, codes, Bool, true, false}
use Rattle.rpc_frame.specs.Frames.{written_frame}
use Rattle.rpc_frame.specs.Limits.{content_limit}
use Rattle.rpc_peer.specs.Said.{Said, request, notification, result, failure, HasTexts, said_data, body_of}
use Rattle.serde_json.specs.Written.{has_float}
use Rattle.session_law.specs.Methods.{is_named}

-- the bytes of a message on the output
unfoldable pub text_of : Said → List ℕ
text_of m = written_frame (body_of m)

-- a notification that the server writes: it publishes diagnostics, tells of tasks, and of targets that changed
abbrev pub is_notice : List ℕ → Bool
is_notice method =
    is_named (codes "build/publishDiagnostics") method || (is_named (codes "build/taskStart") method || (is_named (codes "build/taskFinish") method
    || is_named (codes "buildTarget/didChange") method))

-- the server writes responses and notifications
abbrev pub IsOfServer : Said → Type 0
IsOfServer (result id value) = Unit {0}
IsOfServer (failure id code text) = Unit {0}
IsOfServer (request id method params) = ⊥
IsOfServer (notification method params) = is_notice method ≡ true

-- a message of the server, which is printed in one way alone and fits a frame
pub record IsFramed (m : Said) : Type 0 where
  pub of_server : IsOfServer m
  pub texts : HasTexts m
  pub exact : has_float (said_data m) ≡ false
  pub fits : length (body_of m) ≤ content_limit
