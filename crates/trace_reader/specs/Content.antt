-- What is kept of the lines of a trace.
use Rattle.std.specs.Prelude.{◌≡◌, ◌≤◌, [], is_some, option_map}
use Rattle.std.specs.Option.{ForSome}
use Rattle.trace_reader.specs.TraceText.{scale_of}
use Rattle.trace_reader.specs.Headings.{Scaled}
use Rattle.trace_reader.specs.Progress.{Progress}
use Rattle.trace_reader.specs.declared.content.Content.TheInside.{Inside}

abbrev pub progress_of : Inside → Progress
progress_of a =
    record { least = a.least; heading = option_map (λ (s : Scaled). s.heading) a.heading; row = a.rows.last; count = a.count; fresh = is_some a.room }

-- the heading is in ticks that have its decimals and the least ones, and the room is empty
pub record IsContent (a : Inside) : Type 0 where
  pub scale : ForSome a.heading (λ s. s.scale ≡ scale_of a.least s.heading)
  pub room : ForSome a.room (λ r. r ≡ record { columns = []; digits = [] })
  pub least : (a.least.time ≤ 6) × (a.least.value ≤ 6)
