pub mod Followings
