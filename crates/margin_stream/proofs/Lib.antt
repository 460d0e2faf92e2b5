pub mod FollowedMargins
