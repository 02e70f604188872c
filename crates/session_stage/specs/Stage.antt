-- Where a run of the program draw stands, and how a line of its input moves it: its first line, its setup lines, and
-- the end of the input.
use Rattle.std.specs.Prelude.{ℕ, Bool, true, false, cond, ◌&&◌, List, eqb}
use Rattle.kernel.specs.declared.Kernel.{Kernel}
use Rattle.generator.specs.declared.Profile.{Profile}
use Rattle.text.specs.declared.Spoken.{Spoken}
use Rattle.text.specs.declared.FirstLine.{FirstLine}
use Rattle.text.specs.declared.Row.{Row}
use Rattle.text.specs.Commands.{command_of}
use Rattle.text.specs.FirstLine.{first_line_of}
use Rattle.session_stage.specs.declared.DrawRun.{DrawRun}
use Rattle.session_stage.specs.declared.Course.{Course}
use Rattle.session_stage.specs.declared.Note.{Note}
use Rattle.session.specs.CarriedOut.{following, state_behind, row_for}

-- The stages: at its first line, at its setup lines, at its draws, and over.
abbrev pub first_line : ℕ
first_line = 0

abbrev pub setting_up : ℕ
setting_up = 1

abbrev pub drawing : ℕ
drawing = 2

abbrev pub over : ℕ
over = 3

-- a line of zeros with a code
abbrev pub zeros : ℕ → Row
zeros code = record { n = 0; op = 0; a = 0; b = 0; value = 0; code = code; running = 0; released = 0; clock = 0 }

-- an accepted start
abbrev pub starts : Row → Bool
starts r = eqb r.op 3 && eqb r.code 0

-- the profile of the first line
abbrev pub profile_of : FirstLine → Profile
profile_of f = record { span = f.span; weights = f.weights }

-- the run behind a line or a draw, and the row that is printed for it, where it is shown
pub record Moved : Type 0 where
  pub run : DrawRun
  pub shown : Bool
  pub row : Row

-- a line of zeros, and the run is over; nothing, and the run is as it was
unfoldable pub over_with : ℕ → DrawRun → Moved
over_with code d =
    record {
      run = record { stage = over; kernel = d.kernel; n = d.n; seed = d.seed; profile = d.profile; left = 0 };
      shown = true;
      row = zeros code;
    }

unfoldable pub not_moved : DrawRun → Moved
not_moved d = record { run = d; shown = false; row = zeros 0 }

-- the first line, and a setup line
unfoldable pub opened : DrawRun → FirstLine → Moved
opened d f =
    cond (eqb f.code 0)
    (record {
      run =
          record {
            stage = setting_up;
            kernel = d.kernel;
            n = d.n;
            seed = f.seed;
            profile = profile_of f;
            left = f.count;
          };
      shown = false;
      row = zeros 0;
    })
    (over_with f.code d)

unfoldable pub set_up : DrawRun → Spoken → Moved
set_up d s =
    record {
      run =
          record {
            stage = cond (starts (row_for d.kernel (following d.n) s)) drawing setting_up;
            kernel = state_behind d.kernel s;
            n = following d.n;
            seed = d.seed;
            profile = d.profile;
            left = d.left;
          };
      shown = true;
      row = row_for d.kernel (following d.n) s;
    }

-- a line, whatever the stage; and the end of the input
unfoldable pub moved : DrawRun → List ℕ → Moved
moved d l =
    cond (eqb d.stage first_line)
    (opened d (first_line_of l))
    (cond (eqb d.stage setting_up) (set_up d (command_of l)) (not_moved d))

unfoldable pub ended : DrawRun → Moved
ended d =
    cond (eqb d.stage first_line) (over_with 14 d) (cond (eqb d.stage setting_up) (over_with 2 d) (not_moved d))

-- ---- of a run whose tables are lent: they are its state, and what is passed beside them is its course

abbrev pub as_run : Kernel → Course → DrawRun
as_run k c = record { stage = c.stage; kernel = k; n = c.n; seed = c.seed; profile = c.profile; left = c.left }

abbrev pub as_moved : Kernel → Note → Moved
as_moved k x = record { run = as_run k x.course; shown = x.shown; row = x.row }

-- a setup line behind which the tables are those of d, by its number and its row
abbrev pub set_by : DrawRun → ℕ → Row → Moved
set_by d n row =
    record {
      run =
          record {
            stage = cond (starts row) drawing setting_up;
            kernel = d.kernel;
            n = n;
            seed = d.seed;
            profile = d.profile;
            left = d.left;
          };
      shown = true;
      row = row;
    }
